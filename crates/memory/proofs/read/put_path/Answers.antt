use Rattle.std.proofs.Common.{◌≡◌, ◌+◌, ◌*◌, ◌++◌, length, take, drop, sym, ap, ◌∙◌, ap₂, arith}
use Rattle.merkle.specs.Layout.{path_of}
use Rattle.header.specs.Fields.{fields_of}
use Rattle.header.proofs.Measures.{measured}
use Rattle.memory.specs.Images.{row_tree_in, data_tree_in}
use Rattle.memory.proofs.Spots.{tree_spot, part_is, part_long}
use Rattle.memory.proofs.read.put_path.Goals as goal

pub put_tree_path-requires-clause-tree : goal.put_tree_path-requires-clause-tree
put_tree_path-requires-clause-tree c =
    let h = c.args.h.now in
    let n = c.lengths-n.result in
    let e = c.lengths-n.ensures in
    let m = measured (fields_of h) n h.width h.size e in
    let w : n.width ≡ 2 * h.k = ap (λ l. l.width) e in
    let t = tree_spot n.width n.axis_tree c.args.cell.row (omega arith) m.wide (omega arith) in
    let whole : n.image ≡ n.square + n.width * n.axis_tree + n.data_tree = ap (λ l. l.image) e ∙ sym (ap (λ l. l.square + l.width * l.axis_tree + l.data_tree) e) in
    let image : length c.args.image.now ≡ n.image = c.requires.room.0 ∙ sym (ap (λ l. l.image) e) in
    (omega arith, (part_long _ n.axis_tree c.args.image.now (omega arith) ∙ omega arith, omega arith))

pub put_tree_path-requires-2-clause-tree : goal.put_tree_path-requires-2-clause-tree
put_tree_path-requires-2-clause-tree c =
    let h = c.args.h.now in
    let n = c.lengths-n.result in
    let e = c.lengths-n.ensures in
    let m = measured (fields_of h) n h.width h.size e in
    let w : n.width ≡ 2 * h.k = ap (λ l. l.width) e in
    let whole : n.image ≡ n.square + n.width * n.axis_tree + n.data_tree = ap (λ l. l.image) e ∙ sym (ap (λ l. l.square + l.width * l.axis_tree + l.data_tree) e) in
    let image : length c.args.image.now ≡ n.image = c.requires.room.0 ∙ sym (ap (λ l. l.image) e) in
    (omega arith, (part_long _ n.data_tree c.args.image.now (omega arith) ∙ omega arith, omega arith))

pub returns : goal.returns
unfolding row_tree_in data_tree_in
returns c =
    let e = c.lengths-n.ensures in
    let n = c.lengths-n.result in
    let image = c.args.image.now in
    let r = c.args.cell.row in
    let col = c.args.cell.col in
    ap₂ (λ x y. x ++ y)
    (c.put_tree_path.ensures ∙ ap (path_of n.depth col) (part_is _ n.axis_tree image) ∙ ap (λ l. path_of l.depth col (take l.axis_tree (drop (l.square + r * l.axis_tree) image))) e)
    (c.put_tree_path-2.ensures ∙ ap (path_of (n.depth + 1) r) (part_is _ n.data_tree image) ∙ ap (λ l. path_of (l.depth + 1) r (take l.data_tree (drop (l.square + l.width * l.axis_tree) image))) e)
