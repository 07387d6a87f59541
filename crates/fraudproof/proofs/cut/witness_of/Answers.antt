use Rattle.std.proofs.Common.{◌≡◌, ◌-◌, ◌*◌, List, [], ◌∷◌, drop, length-drop, ◌∙◌, sym, ap, subst, arith, length}
use Rattle.std.proofs.lemmas.List.{take_all}
use Rattle.std.specs.Option.{MatchOption}
use Rattle.header.specs.Fields.{fields_of}
use Rattle.wire.specs.Reading.{body_for}
use Rattle.wire.specs.Values.{Witness}
use Rattle.fraudproof.specs.Left.{witnesses_left}
use Rattle.fraudproof.specs.Proof.{witness_len}
use Rattle.fraudproof.specs.Witness.{some_values, values_of, witnesses_of}
use Rattle.fraudproof.proofs.Cuts.{none_at, cut_at}
use Rattle.fraudproof.proofs.cut.witness_of.Goals as goal

pub returns-in_err-start : goal.returns-in_err-start
unfolding body_for
returns-in_err-start c =
    let size : c.record_len.result ≡ witness_len (fields_of c.args.h.now) = c.record_len.ensures in
    let product : c.args.i * c.record_len.result ≡ c.args.i * witness_len (fields_of c.args.h.now) = ap (λ n. c.args.i * n) size in
    let far = c.in_err-start.ensures in
    ap some_values c.from_residual.ensures ∙ sym (none_at (fields_of c.args.h.now) c.args.p.now.witnesses.now c.args.i (omega arith))

pub returns-in_err-records : goal.returns-in_err-records
unfolding body_for
returns-in_err-records c =
    let size : c.record_len.result ≡ witness_len (fields_of c.args.h.now) = c.record_len.ensures in
    let product : c.args.i * c.record_len.result ≡ c.args.i * witness_len (fields_of c.args.h.now) = ap (λ n. c.args.i * n) size in
    let far = c.in_err-records.ensures.lookup in
    ap some_values c.from_residual-in_err-records.ensures ∙ sym (none_at (fields_of c.args.h.now) c.args.p.now.witnesses.now c.args.i (omega arith))

pub returns : goal.returns
unfolding body_for
returns c =
    let size : c.record_len.result ≡ witness_len (fields_of c.args.h.now) = c.record_len.ensures in
    let start : c.in_ok-start.start ≡ c.args.i * witness_len (fields_of c.args.h.now) = c.in_ok-start.ensures.1 ∙ ap (λ n. c.args.i * n) size in
    let records : c.in_ok-records.records.now ≡ drop c.in_ok-start.start c.args.p.now.witnesses.now = c.in_ok-records.ensures.lookup.0.2
    ∙ take_all (length c.args.p.now.witnesses.now - c.in_ok-start.start) (drop c.in_ok-start.start c.args.p.now.witnesses.now) (omega (arith, length-drop c.in_ok-start.start c.args.p.now.witnesses.now)) in
    let left : List Witness = witnesses_of (fields_of c.args.h.now) (drop (c.args.i * witness_len (fields_of c.args.h.now)) c.args.p.now.witnesses.now) in
    let same : witnesses_of (fields_of c.args.h.now) c.in_ok-records.records.now ≡ left =
    ap (witnesses_of (fields_of c.args.h.now)) (records ∙ ap (λ n. drop n c.args.p.now.witnesses.now) start) in
    cut_at (fields_of c.args.h.now) c.args.p.now.witnesses.now c.args.i c.next.result (witnesses_left c.next.new.self)
    (subst (λ (vs : List Witness). MatchOption c.next.result ((vs ≡ []) × (witnesses_left c.next.new.self ≡ [])) (λ w. vs ≡ values_of w ∷ witnesses_left c.next.new.self)) same c.next.ensures.steps)
