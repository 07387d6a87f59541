use Rattle.std.proofs.Common.{List, ℕ, ap, ◌∙◌, arith}
use Rattle.octets.specs.Shares.{share}
use Rattle.merkle.specs.Tree.{root}
use Rattle.merkle.specs.Climb.{plain_rule, leaf_of, join_of}
use Rattle.erasure.specs.Rows.{row_sum}
use Rattle.erasure.proofs.Bounds.{width_most, width_some}
use Rattle.erasure.proofs.Rises.{rising_places}
use Rattle.header.specs.Fields.{fields_of}
use Rattle.header.specs.Sizes.{depth}
use Rattle.fraudproof.specs.Proof.{witness_len}
use Rattle.fraud.specs.Accepted.{shares_of}
use Rattle.fraud.specs.Check.{witnesses_in}
use Rattle.fraud.proofs.Words.{rows_are, root_is, word_through, all_shares_long, all_shares_small}
use Rattle.fraud.proofs.shown.Shown.root_in.Goals as goal

pub invariant_of-sums : goal.invariant_of-sums
invariant_of-sums g c =
    let h = c.args.self.now.header.now in
    let most = width_most h.k h.width in
    record { few = (width_some h.k h.width, omega arith); table = c.weights.auto.rows ∙ c.requires.0 }

pub returns : goal.returns
returns g c =
    let s = c.args.self.now in
    let h = s.header.now in
    let x = fields_of h in
    let f = g.H.Hash.meaning in
    let W = g.C.Code.weight in
    let ps : List ℕ = s.places.now in
    let ws : List ℕ = s.records.now in
    let rows = rows_are W h.k ps c.args.rows.now c.weights.new.rows s.many h.width s.rising c.requires.0 c.weights.ensures in
    let most = width_most h.k h.width in
    record {
      value = c.root.ensures
          ∙ ap (λ r. root (join_of plain_rule f) (depth x) (λ j. leaf_of plain_rule f (row_sum (share h.k j r) (witness_len x) 9 h.s ws))) rows
          ∙ root_is x ws s.whole h.width f W ps;
      through = word_through g.C.Code.table W g.met.C.Code.weighs h.k h.s (omega arith) ps (shares_of (witnesses_in x ws))
          (rising_places h.k ps s.many s.rising) (all_shares_long x ws s.whole) (all_shares_small x ws s.whole s.bytes);
    }
