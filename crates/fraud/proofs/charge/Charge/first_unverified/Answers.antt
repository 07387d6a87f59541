use Rattle.std.proofs.Common.{length, not, ap, inl, ◌∙◌, arith, rules}
use Rattle.std.proofs.lemmas.Iterator.Adapters.{position_from-zero}
use Rattle.std.proofs.lemmas.Iterator.Consumers.{YieldsList-from_first}
use Rattle.std.proofs.lemmas.Iterator.Search.{position_from_yields_List}
use Rattle.std.proofs.lemmas.List.FromFn.{length-map-range_with_len}
use Rattle.erasure.proofs.Bounds.{width_most}
use Rattle.fraudproof.specs.Left.{witnesses_left}
use Rattle.fraudproof.specs.Proof.{witness_at}
use Rattle.fraudproof.specs.Witness.{values_of}
use Rattle.fraud.specs.Accepted.{vouches}
use Rattle.fraud.specs.Charge.{block_of, case_in}
use Rattle.fraud.proofs.Cases.{first_is}
use Rattle.fraud.proofs.charge.Charge.first_unverified.Goals as goal

pub position-requires-clause-fits : goal.position-requires-clause-fits
position-requires-clause-fits g c =
    let h = block_of c.args.self.now in
    let n = ap length c.witnesses.ensures ∙ length-map-range_with_len (witness_at h c.args.self.now.proof.witnesses.now) 0 h.k in
    let most = width_most h.k c.args.self.now.header.now.width in
    inl (omega (arith, n))

pub returns : goal.returns
returns g c =
    let test = vouches g.H.Hash.meaning (block_of c.args.self.now) (case_in c.args.self.now).claim in
    let ws = (case_in c.args.self.now).witnesses in
    position_from_yields_List (λ w. not (test w)) c.position.new.self _ c.position.result c.position.ensures.ran
    (YieldsList-from_first values_of witnesses_left {s = c.witnesses.result} ws c.witnesses.ensures) (λ x b q k. search rules)
    ∙ position_from-zero (λ w. not (test w)) ws ∙ first_is test 0 ws
