use Rattle.std.proofs.Common.{sym, refl, ◌∙◌, arith}
use Rattle.merkle.specs.Climb.{plain_rule}
use Rattle.merkle.proofs.Chunks.{past_on, past_end}
use Rattle.climbs.proofs.climb.climb_up.Goals as goal

pub loop-sibling-preserved : goal.loop-sibling-preserved
loop-sibling-preserved g c =
    past_on plain_rule g.H.Hash.meaning c.loop-sibling.sibling-index c.loop-sibling.place c.args.siblings.now c.loop-sibling.node _ _ c.loop-sibling-test.true refl c.parent-node.ensures ∙ c.loop-sibling.invariant

pub returns : goal.returns
returns g c =
    sym (past_end plain_rule g.H.Hash.meaning c.loop-sibling.sibling-index c.loop-sibling.place c.args.siblings.now c.loop-sibling.node (omega arith))
    ∙ c.loop-sibling.invariant
