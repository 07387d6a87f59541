use Rattle.std.proofs.Common.{◌≡◌, ℕ, ◌+◌, ◌<◌, ◌≤◌}
use Rattle.merkle.specs.Climb.{join_of, plain_rule, slot}
use Rattle.commitment.proofs.bands.join_rows.Given as goal

-- the places that are joined, and those that are not
abbrev pub invariant-loop-j : goal.invariant-loop-j
invariant-loop-j g l =
    ((m : ℕ) → m < l.j → slot m l.work ≡ join_of plain_rule g.H.Hash.meaning (slot m l.initial.work) (slot (l.width + m) l.initial.work))
    × ((m : ℕ) → l.j ≤ m → slot m l.work ≡ slot m l.initial.work)
