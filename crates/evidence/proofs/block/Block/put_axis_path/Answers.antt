use Rattle.std.proofs.Common.{◌≡◌, ◌^◌, ◌<◌, ◌≤◌, ap, arith, rules}
use Rattle.header.specs.Fields.{fields_of}
use Rattle.header.specs.Sizes.{axis_tree_len, depth}
use Rattle.merkle.specs.Layout.{tree_len}
use Rattle.commitment.proofs.Fitting.{axis_tree_most, cells_measured}
use Rattle.evidence.proofs.block.Block.put_axis_path.Goals as goal

pub slice_bounds-space-end : goal.slice_bounds-space-end
slice_bounds-space-end g c = axis_tree_most c.args.self.now.cells

pub slice_bounds-tree-end : goal.slice_bounds-tree-end
slice_bounds-tree-end g c = let most : c.args.self.now.cells.lengths.axis_tree ≤ 4064 = axis_tree_most c.args.self.now.cells in search rules

pub returns : goal.returns
returns g c =
    let s = c.args.self.now.cells in
    let h = fields_of s.header.now in
    let n = s.lengths in
    let m = cells_measured s.header.now n s.measured in
    let most : n.axis_tree ≤ 4064 = axis_tree_most s in
    let size : n.axis_tree ≡ axis_tree_len h = ap (λ l. l.axis_tree) s.measured in
    let levels : n.depth ≡ depth h = ap (λ l. l.depth) s.measured in
    let deep : n.depth ≤ 6 = m.deep in
    let tree : n.axis_tree ≡ tree_len n.depth = omega (arith, m.axis_tree, m.power) in
    let place : c.args.place < 2 ^ n.depth = omega (arith, m.power, ap (λ l. l.width) s.measured) in
    search rules
