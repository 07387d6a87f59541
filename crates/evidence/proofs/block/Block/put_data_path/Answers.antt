use Rattle.std.proofs.Common.{◌≡◌, ◌+◌, ◌*◌, ◌^◌, ◌<◌, ◌≤◌, length, ap, arith, rules}
use Rattle.hash.specs.Digests.{digest_len}
use Rattle.header.specs.Fields.{fields_of}
use Rattle.header.specs.Sizes.{depth}
use Rattle.merkle.specs.Layout.{tree_len}
use Rattle.commitment.proofs.Fitting.{cells_measured, data_tree_most}
use Rattle.evidence.proofs.block.Block.put_data_path.Goals as goal

pub slice_bounds-space-end : goal.slice_bounds-space-end
slice_bounds-space-end g c = data_tree_most c.args.self.now.cells

pub slice_bounds-tree-end : goal.slice_bounds-tree-end
slice_bounds-tree-end g c = let most : c.args.self.now.cells.lengths.data_tree ≤ 8160 = data_tree_most c.args.self.now.cells in search rules

pub returns : goal.returns
returns g c =
    let s = c.args.self.now.cells in
    let h = fields_of s.header.now in
    let n = s.lengths in
    let m = cells_measured s.header.now n s.measured in
    let most : n.data_tree ≤ 8160 = data_tree_most s in
    let levels : n.depth ≡ depth h = ap (λ l. l.depth) s.measured in
    let deep : n.depth + 1 ≤ 7 = omega (arith, m.deep) in
    let tree : n.data_tree ≡ tree_len (n.depth + 1) = omega (arith, m.data_tree, m.above) in
    let leaf : c.args.line < 2 ^ (n.depth + 1) = omega (arith, m.above, ap (λ l. l.width) s.measured) in
    let roots : length c.args.self.now.roots.now ≡ 2 ^ (n.depth + 1) * digest_len = omega (arith, c.args.self.now.rooted, m.above, ap (λ l. l.width) s.measured) in
    search rules
