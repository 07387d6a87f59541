use mathlib.Core.Path.{◌≡◌}
use Rattle.merkle.specs.Climb.{plain_rule, climb, past}
use Rattle.merkle.proofs.Chunks.{past_from}
use Rattle.climbs.proofs.climb.climb_up.Given as goal

abbrev pub invariant-loop-sibling : goal.invariant-loop-sibling
invariant-loop-sibling g l =
    climb plain_rule g.H.Hash.meaning (past_from l.sibling-index l.place l.siblings) l.node
    ≡ climb plain_rule g.H.Hash.meaning (past l.initial.place l.siblings) l.initial.node
