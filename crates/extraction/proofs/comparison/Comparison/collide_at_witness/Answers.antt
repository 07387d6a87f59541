use Rattle.std.proofs.Common.{◌≤◌, arith}
use Rattle.fraud.specs.Charge.{block_of}
use Rattle.header.proofs.Measures.{measured}
use Rattle.extraction.proofs.comparison.Comparison.collide_at_witness.Goals as goal

pub slice_bounds-own-end : goal.slice_bounds-own-end
slice_bounds-own-end g c =
    let h = c.args.self.now.charge.header.now in
    let m = measured (block_of c.args.self.now.charge) c.lengths-len.result h.width h.size c.lengths-len.ensures in
    let l : c.lengths-len.result.path ≤ 416 = omega arith in
    l
