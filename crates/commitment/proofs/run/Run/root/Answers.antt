use Rattle.std.proofs.Common.{◌∙◌, arith}
use Rattle.merkle.specs.Climb.{join_of, plain_rule, slot}
use Rattle.merkle.proofs.Same.{node_same}
use Rattle.commitment.specs.Values.{value_leaf, value_root}
use Rattle.commitment.proofs.run.Run.root.Goals as goal

pub returns : goal.returns
unfolding value_root
returns g c =
    let f = g.H.Hash.meaning in
    let s = c.args.self.now in
    c.grown_root.ensures
    ∙ node_same (join_of plain_rule f) (λ i. slot i c.put_leaves.new.entries) (value_leaf f s.size s.values.now) s.depth 0 (λ j l. c.put_leaves.ensures j (omega arith))
