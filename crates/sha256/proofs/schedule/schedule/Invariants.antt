use Rattle.std.proofs.Common.{◌≡◌, ◌-◌, length, take}
use Rattle.sha256.specs.Compression.{extended}
use Rattle.sha256.specs.Message.{block_at}
use Rattle.sha256.proofs.schedule.schedule.Given as goal

abbrev pub invariant-loop-t : goal.invariant-loop-t
invariant-loop-t l = (length l.w ≡ 64) × (take l.t l.w ≡ take l.t (block_at l.block 0))

abbrev pub invariant-loop-j : goal.invariant-loop-j
invariant-loop-j l = (length l.w ≡ 64) × (take l.j l.w ≡ extended (l.j - 16) (block_at l.block 0))
