use Rattle.std.proofs.Common.{◌≤◌, ap, arith}
use Rattle.fraud.specs.Charge.{block_of}
use Rattle.header.proofs.Measures.{measured, depth_most}
use Rattle.extraction.proofs.comparison.Comparison.collide_at_claim.Goals as goal

pub slice_bounds-tree-end : goal.slice_bounds-tree-end
slice_bounds-tree-end g c =
    let h = c.args.self.now.charge.header.now in
    let m = measured (block_of c.args.self.now.charge) c.lengths-n.result h.width h.size c.lengths-n.ensures in
    let l : c.lengths-n.result.data_tree ≤ 8160 = omega arith in
    l

pub slice_bounds-own-end : goal.slice_bounds-own-end
slice_bounds-own-end g c =
    let h = c.args.self.now.charge.header.now in
    let l : c.lengths-n.result.data_path ≤ 224 = omega (arith, ap (λ l. l.data_path) c.lengths-n.ensures, depth_most h.k) in
    l
