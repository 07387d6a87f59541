use Rattle.std.proofs.Common.{ℕ, List, ◌∙◌, subst}
use Rattle.std.proofs.lemmas.List.FromFn.{length-map-range_with_len}
use Rattle.codes.specs.Words.{Through}
use Rattle.header.specs.Fields.{fields_of}
use Rattle.header.specs.declared.header.Header.{Header}
use Rattle.fraudproof.specs.Proof.{witness_at}
use Rattle.fraud.specs.Accepted.{shares_of}
use Rattle.fraud.specs.Charge.{block_of, case_in}
use Rattle.fraud.specs.Check.{witnesses_in, word_by}
use Rattle.fraud.proofs.Judging.{decides, some_none}
use Rattle.fraud.proofs.charge.Charge.judge_in.Goals as goal

pub returns-in-Some-clause-decides : goal.returns-in-Some-clause-decides
returns-in-Some-clause-decides g c =
    let s = c.args.self.now in
    let h = block_of s in
    decides g.H.Hash.meaning g.C.Code.table g.C.Code.weight g.met.C.Code.second h s.header.now.width (case_in s)
    (length-map-range_with_len (witness_at h s.proof.witnesses.now) 0 h.k) (λ r e. some_none c.in-Some.i (c.in-Some.ensures ∙ e))

pub returns-clause-decides : goal.returns-clause-decides
returns-clause-decides g c =
    let s = c.args.self.now in
    let h = block_of s in
    let p = case_in s in
    let W = g.C.Code.weight in
    let T = g.C.Code.table in
    let e = c.of-shown.ensures in
    let Word : Header → List ℕ → List ℕ → Type 0 = λ b ps ws.
    Through T b.k b.s ps (shares_of (witnesses_in (fields_of b) ws)) (word_by W b.k b.s ps (shares_of (witnesses_in (fields_of b) ws))) in
    let through : Word s.header.now c.put_places.new.places s.proof.witnesses.now =
    subst (λ b. Word b.now c.put_places.new.places s.proof.witnesses.now) e.header
    (subst (λ ps. Word c.of-shown.result.header.now ps.now s.proof.witnesses.now) e.places
    (subst (λ ws. Word c.of-shown.result.header.now c.of-shown.result.places.now ws.now) e.records c.has_root.ensures.through)) in
    decides g.H.Hash.meaning T W g.met.C.Code.second h s.header.now.width p (length-map-range_with_len (witness_at h s.proof.witnesses.now) 0 h.k)
    (λ r e. subst (λ ps. Through T h.k h.s ps (shares_of p.witnesses) (word_by W h.k h.s ps (shares_of p.witnesses))) c.put_places.ensures through)
