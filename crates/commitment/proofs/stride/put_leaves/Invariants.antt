use Rattle.std.proofs.Common.{◌≡◌, ℕ, ◌+◌, ◌*◌, ◌<◌}
use Rattle.merkle.specs.Climb.{slot}
use Rattle.commitment.specs.Values.{value_leaf}
use Rattle.commitment.proofs.stride.put_leaves.Given as goal

abbrev pub invariant-loop-j : goal.invariant-loop-j
invariant-loop-j g l = (i : ℕ) → i < l.j → slot i l.entries ≡ value_leaf g.H.Hash.meaning l.size l.values (l.stride.first + i * l.stride.step)
