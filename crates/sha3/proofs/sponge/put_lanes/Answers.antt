use Rattle.std.proofs.Common.{◌+◌, ◌*◌, ◌∙◌, arith}
use Rattle.octets.proofs.Joins.{joined_put, joined_all}
use Rattle.sha3.specs.Sponge.{lane_bytes}
use Rattle.sha3.proofs.sponge.put_lanes.Goals as goal

pub loop-i-preserved : goal.loop-i-preserved
loop-i-preserved c =
    let i = c.loop-i.i in
    joined_put lane_bytes c.args.xs.now c.loop-i.out _ i (8 * i) (8 * (i + 1)) _
    c.loop-i.invariant (c.copy_from_slice.ensures.after ∙ c.to_le_bytes.ensures) (omega arith) (omega arith) (omega arith)

pub returns : goal.returns
returns c = joined_all lane_bytes c.args.xs.now c.loop-i.out c.loop-i.i (8 * c.loop-i.i) c.loop-i.invariant (omega arith) (omega arith)
