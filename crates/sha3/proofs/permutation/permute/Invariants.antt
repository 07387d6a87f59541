use Rattle.std.proofs.Common.{◌≡◌, take}
use Rattle.sha3.specs.Keccak.{rounds, constants}
use Rattle.sha3.specs.Lanes.{lanes}
use Rattle.sha3.proofs.permutation.permute.Given as goal

abbrev pub invariant-loop-rc : goal.invariant-loop-rc
invariant-loop-rc l = lanes l.t ≡ rounds (take l.rc-index constants) (lanes l.initial.t)
