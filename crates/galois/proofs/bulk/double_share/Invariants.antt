use Rattle.std.proofs.Common.{◌≡◌, ◌++◌, map, take, drop}
use Rattle.galois.specs.Field.{mul}
use Rattle.galois.proofs.bulk.double_share.Given as goal

abbrev pub invariant-loop-b : goal.invariant-loop-b
invariant-loop-b l = l.share ≡ map (mul 2) (take l.b-index l.initial.share) ++ drop l.b-index l.initial.share
