use Rattle.std.proofs.Common.{ℕ, ◌-◌, ◌<◌, ◌≤◌, List, length, take, drop, sym, refl, ap, ◌∙◌, arith}
use Rattle.std.proofs.ByRecursion.{All-from_get_or}
use Rattle.std.proofs.lemmas.Result.{err_from_is_err_and}
use Rattle.std.proofs.lemmas.Bool.{ltb-true, ltb-false}
use Rattle.header.specs.Fields.{fields_of}
use Rattle.wire.specs.Parts.{value_of}
use Rattle.wire.specs.Reading.{record_in}
use Rattle.wire.proofs.Cuts.{no_head, no_body, not_admitted, admitted_is, out_of_range, in_its_range}
use Rattle.wire.proofs.Trips.{read_is_written}
use Rattle.wire.proofs.read.read_due.Goals as goal

pub returns-in_default-clause-value : goal.returns-in_default-clause-value
returns-in_default-clause-value c = no_head _ _ _ (omega (arith, ltb-true))

pub returns-then-rest-len-clause-value : goal.returns-then-rest-len-clause-value
returns-then-rest-len-clause-value c = no_body _ _ _ _ _ c.from_le_bytes-code.result (omega (arith, ltb-false)) refl c.from_le_bytes-len.ensures (omega arith)

pub returns-in_err-kind-clause-value : goal.returns-in_err-kind-clause-value
returns-in_err-kind-clause-value c =
    let p = err_from_is_err_and c.from_residual.result c.from_residual.ensures.1 in
    let bs : List ℕ = c.args.bytes.now in
    let rest : List ℕ = take (length bs - 6) (drop 6 bs) in
    let long : 6 ≤ length bs = omega (arith, ltb-false) in
    let held : c.from_le_bytes-len.result ≤ length rest = omega (arith, ltb-false) in
    rw (p.1, p.2) (not_admitted (fields_of c.args.h.now) c.args.due bs rest c.from_le_bytes-len.result c.from_le_bytes-code.result long refl c.from_le_bytes-len.ensures held c.from_le_bytes-code.ensures _ c.in_err-kind.ensures.answer)

pub returns-then-not-in_range-clause-value : goal.returns-then-not-in_range-clause-value
returns-then-not-in_range-clause-value c =
    let h = fields_of c.args.h.now in
    let bs : List ℕ = c.args.bytes.now in
    let rest : List ℕ = take (length bs - 6) (drop 6 bs) in
    let len : ℕ = c.from_le_bytes-len.result in
    let long : 6 ≤ length bs = omega (arith, ltb-false) in
    let held : len ≤ length rest = omega (arith, ltb-false) in
    let after : List ℕ = take (length rest - len) (drop len rest) in
    let x = value_of c.record_in-item.result in
    let x-is = c.record_in-item.ensures.value ∙ ap (λ k. record_in h k (take (len - 0) rest)) (sym c.in_ok-kind.ensures.kind) in
    let v = admitted_is h c.args.due bs rest len c.from_le_bytes-code.result long refl c.from_le_bytes-len.ensures held c.from_le_bytes-code.ensures c.in_ok-kind.ensures.answer x x-is after refl in
    sym (out_of_range h x after c.if-not-in_range.ensures) ∙ v

pub returns-clause-value : goal.returns-clause-value
returns-clause-value c =
    let h = fields_of c.args.h.now in
    let bs : List ℕ = c.args.bytes.now in
    let rest : List ℕ = take (length bs - 6) (drop 6 bs) in
    let len : ℕ = c.from_le_bytes-len.result in
    let long : 6 ≤ length bs = omega (arith, ltb-false) in
    let held : len ≤ length rest = omega (arith, ltb-false) in
    let after : List ℕ = take (length rest - len) (drop len rest) in
    let x = value_of c.record_in-item.result in
    let x-is = c.record_in-item.ensures.value ∙ ap (λ k. record_in h k (take (len - 0) rest)) (sym c.in_ok-kind.ensures.kind) in
    let v = admitted_is h c.args.due bs rest len c.from_le_bytes-code.result long refl c.from_le_bytes-len.ensures held c.from_le_bytes-code.ensures c.in_ok-kind.ensures.answer x x-is after refl in
    sym (in_its_range h x after c.if-not-in_range.ensures) ∙ v

pub returns-clause-back : goal.returns-clause-back
returns-clause-back c =
    let bs : List ℕ = c.args.bytes.now in
    let w = returns-clause-value c in
    read_is_written (fields_of c.args.h.now) c.args.due bs _ _ (All-from_get_or (λ b. b < 256) bs 0 (λ i h. omega (arith, c.type_inv.bytes i))) (sym w)
