use Rattle.std.proofs.Common.{◌≡◌, ℕ, ◌+◌, arith}
use Rattle.erasure.proofs.Bounds.{width_some}
use Rattle.header.specs.Sizes.{depth_of}
use Rattle.header.proofs.Measures.{depth_by_power, depth_most}
use Rattle.header.proofs.header.Header.depth.Goals as goal

pub ilog2-requires : goal.ilog2-requires
ilog2-requires c = width_some c.args.self.now.k c.args.self.now.width

pub returns : goal.returns
returns c =
    let k : ℕ = c.args.self.now.k in
    let e : c.ilog2.result + 1 ≡ depth_of k = depth_by_power k c.ilog2.result c.args.self.now.width c.ilog2.ensures.power_le c.ilog2.ensures.next_power_gt in
    record { value = e; small = omega (arith, e, depth_most k) }
