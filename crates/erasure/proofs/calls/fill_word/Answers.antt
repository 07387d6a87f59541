use Rattle.std.proofs.Common.{ℕ, ◌≤◌, List, length, refl, ap, ◌∙◌, arith}
use Rattle.octets.specs.Shares.{byte_of}
use Rattle.codes.specs.Code.{Weight}
use Rattle.codes.specs.Words.{at}
use Rattle.codes.proofs.Words.{applied_row}
use Rattle.erasure.proofs.Bounds.{width_most}
use Rattle.erasure.proofs.Rises.{rising_places}
use Rattle.erasure.proofs.Tables.{table_byte, table_long}
use Rattle.erasure.proofs.Recovers.{through_from_weights}
use Rattle.erasure.proofs.calls.fill_word.Goals as goal

pub apply_rows-requires : goal.apply_rows-requires
apply_rows-requires g c =
    let ps : List ℕ = c.args.places.now in
    (ap length c.weight_table-rows.ensures ∙ table_long g.C.Code.weight (length ps) ps, (c.requires.1.1.1.0, c.requires.1.1.1.1))

pub returns : goal.returns
returns g c =
    let ps : List ℕ = c.args.places.now in
    let k : ℕ = length ps in
    let s : ℕ = c.args.s in
    let l : k ≤ 32 = width_most k c.requires.0 in
    let W : Weight = g.C.Code.weight in
    let rows : List ℕ = c.weight_table-rows.result.now in
    through_from_weights g.C.Code.table W g.met.C.Code.weighs k s (omega arith) ps c.args.shares.now c.apply_rows.new.out
    (rising_places k ps refl c.requires.1.0) c.requires.1.1.1.0 (c.apply_rows.auto.out ∙ c.requires.1.1.1.1)
    (λ n. (c.type_inv.shares n).fits)
    (λ i hi b hb. c.apply_rows.ensures i hi b hb
    ∙ applied_row k (λ j. byte_of k i j rows) (W k (at ps) i) (λ j. byte_of s j b c.args.shares.now)
    (λ j hj. ap (byte_of k i j) c.weight_table-rows.ensures ∙ table_byte W k ps i j hi hj))
