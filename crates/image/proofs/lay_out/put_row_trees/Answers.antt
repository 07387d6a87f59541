use Rattle.std.proofs.Common.{◌≡◌, ◌+◌, ◌-◌, ◌*◌, ◌<◌, ◌≤◌, length, take, ap, ◌∙◌, zero-mul, add-mul, one-mul, arith, rules}
use Rattle.octets.proofs.Shares.{share_inside}
use Rattle.header.specs.Fields.{fields_of}
use Rattle.header.specs.Sizes.{axis_tree_len, line_count}
use Rattle.commitment.specs.Roots.{line_tree}
use Rattle.commitment.proofs.Fitting.{cells_measured}
use Rattle.image.proofs.Trees.{trees_none, trees_more}
use Rattle.image.proofs.lay_out.put_row_trees.Goals as goal

pub loop-row-init : goal.loop-row-init
loop-row-init g c =
    let s = c.args.cells.now in
    ap (λ n. take n c.args.trees.now) (zero-mul s.lengths.axis_tree) ∙ trees_none g.H.Hash.meaning g.met.H.Hash.sized (fields_of s.header.now) s.header.now.width s.shares.now

pub loop-row-preserved : goal.loop-row-preserved
loop-row-preserved g c =
    let f = g.H.Hash.meaning in
    let s = c.args.cells.now in
    let h = fields_of s.header.now in
    let m = cells_measured s.header.now s.lengths s.measured in
    let row = c.loop-row.row in
    let n = s.lengths.axis_tree in
    let size : n ≡ axis_tree_len h = ap (λ l. l.axis_tree) s.measured in
    let inside : row * n + n ≤ length c.loop-row.trees = omega (arith, share_inside row s.lengths.width n c.loop-row-test.true) in
    let more : (row + 1) * n ≡ row * n + n = add-mul row 1 n ∙ ap (λ x. row * n + x) (one-mul n) in
    let line : row < line_count h = omega (arith, ap (λ l. l.width) s.measured) in
    let tree : c.line_tree.new.tree ≡ line_tree f h s.shares.now row = search rules in
    trees_more f g.met.H.Hash.sized h s.header.now.width s.shares.now row (row * n) ((row + 1) * n - row * n) ((row + 1) * n) c.loop-row.trees c.line_tree.new.tree c.loop-row.invariant
    tree (omega arith) (omega arith)
