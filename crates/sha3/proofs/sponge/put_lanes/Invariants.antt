use Rattle.std.proofs.Common.{◌≡◌, ◌*◌, take}
use Rattle.std.specs.List.{flat_map}
use Rattle.sha3.specs.Sponge.{lane_bytes}
use Rattle.sha3.proofs.sponge.put_lanes.Given as goal

abbrev pub invariant-loop-i : goal.invariant-loop-i
invariant-loop-i l = take (8 * l.i) l.out ≡ flat_map lane_bytes (take l.i l.xs)
