use Rattle.std.proofs.Common.{◌≡◌, ℕ, ◌+◌, ◌<◌}
use Rattle.merkle.specs.Climb.{plain_rule, join_of, slot}
use Rattle.layout.proofs.Rows.{Grown}
use Rattle.layout.proofs.grow.join_all.Given as goal

abbrev pub invariant-loop-i : goal.invariant-loop-i
invariant-loop-i g l =
    ((j : ℕ) → j < l.n → slot j l.tree ≡ slot j l.initial.tree)
    × Grown (join_of plain_rule g.H.Hash.meaning) l.n (l.n + l.i) l.tree
