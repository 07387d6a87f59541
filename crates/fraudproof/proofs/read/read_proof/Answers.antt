use Rattle.std.proofs.Common.{◌≡◌, ◌+◌, map, length, Ok, sym, ap, ◌∙◌, subst, arith}
use Rattle.std.specs.List.{range_with_len}
use Rattle.std.proofs.lemmas.Result.{err_from_is_err_and}
use Rattle.header.specs.Fields.{fields_of}
use Rattle.header.specs.Sizes.{claim_body_len}
use Rattle.wire.specs.Parts.{value_of, Begins, after}
use Rattle.wire.specs.Readers.{rest_of, spot_of}
use Rattle.wire.specs.Values as values
use Rattle.fraudproof.specs.Form.{witnesses_from}
use Rattle.fraudproof.specs.Proof.{witness_at}
use Rattle.fraudproof.proofs.Claims.{claim_due, not_claim, claim_read, no_claim, with_claim_lem, from_front, front_spot, place_is}
use Rattle.fraudproof.proofs.read.read_proof.Goals as goal

pub returns-in_err-axis-clause-answer : goal.returns-in_err-axis-clause-answer
returns-in_err-axis-clause-answer c =
    let p = err_from_is_err_and c.from_residual.result c.from_residual.ensures.1 in
    let front = c.new-reader.ensures in
    rw (p.1, p.2) (no_claim (fields_of c.args.h.now) c.args.bytes.now _
    (from_front c.new-reader.result c.args.bytes front.bytes front.place (fields_of c.args.h.now) _ c.in_err-axis.ensures.answer))

pub unreachable-requires : goal.unreachable-requires
unreachable-requires c =
    let front = c.new-reader.ensures in
    let d = claim_due (fields_of c.args.h.now) 0 c.args.bytes.now _ _
    (sym (from_front c.new-reader.result c.args.bytes front.bytes front.place (fields_of c.args.h.now) _ c.in_ok-axis.ensures.answer)) in
    not_claim c.in_ok-axis.field-0 d.0 d.1 c.in_default.not-Claim

pub returns-in_err-read_witnesses-clause-answer : goal.returns-in_err-read_witnesses-clause-answer
returns-in_err-read_witnesses-clause-answer c =
    let h = fields_of c.args.h.now in
    let p = err_from_is_err_and c.from_residual-in_err-read_witnesses.result c.from_residual-in_err-read_witnesses.ensures.1 in
    let v : values.Claim = record { axis = c.in-Claim.axis; index = c.in-Claim.index; root = c.in-Claim.root.now; path = c.in-Claim.path.now } in
    let front = c.new-reader.ensures in
    let now = c.read.new.self in
    rw (p.1, p.2) (with_claim_lem h c.args.bytes.now _ (rest_of now)
    (from_front c.new-reader.result c.args.bytes front.bytes front.place h _ c.in_ok-axis.ensures.answer) v (ap value_of c.in-Claim.is) _
    (c.in_err-read_witnesses.ensures.answer ∙ ap (λ n. witnesses_from h h.k n (rest_of now)) (place_is now c.args.bytes (c.read.ensures.same ∙ front.bytes))))

pub returns : goal.returns
returns c =
    let h = fields_of c.args.h.now in
    let b = c.args.bytes in
    let v : values.Claim = record { axis = c.in-Claim.axis; index = c.in-Claim.index; root = c.in-Claim.root.now; path = c.in-Claim.path.now } in
    let front = c.new-reader.ensures in
    let old = c.new-reader.result in
    let now = c.read.new.self in
    let same = c.read.ensures.same ∙ front.bytes in
    let rest = c.rest-witnesses.ensures in
    let w = c.in_ok-read_witnesses.ensures in
    let said = from_front old b front.bytes front.place h _ c.in_ok-axis.ensures.answer in
    let r = claim_read h 0 b.now _ _ v (sym said) (ap value_of c.in-Claim.is) in
    let begins = subst (Begins h (after (spot_of old) 6)) c.in-Claim.is c.in_ok-axis.ensures.moved.begins in
    let spot = front_spot old b front.bytes front.place in
    let at : now.at ≡ 6 + claim_body_len h = omega (arith, place_is now b same, r.behind) in
    record {
      answer = ap (λ xs. Ok (record { claim = v; witnesses = map (witness_at h xs) (range_with_len 0 h.k) })) rest.value
          ∙ with_claim_lem h b.now _ (rest_of now) said v (ap value_of c.in-Claim.is) _ (w.answer ∙ ap (λ n. witnesses_from h h.k n (rest_of now)) (place_is now b same));
      formed = record {
        axis_low = r.axis_low;
        index_low = r.index_low;
        root_long = r.root_long;
        path_long = r.path_long;
        witnesses_long = ap length rest.value ∙ w.form.long;
        places_low = rw rest.value w.form.places;
        axes_low = rw rest.value w.form.axes;
      };
      place = record {
        root_at = begins.0 ∙ spot 6 3;
        path_at = begins.1 ∙ spot 6 35;
        witnesses_at = rest.place ∙ ap (λ x. after x.ref_ptr now.at) same ∙ ap (after b.ref_ptr) at;
      };
    }
