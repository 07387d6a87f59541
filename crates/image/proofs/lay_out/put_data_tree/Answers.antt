use Rattle.std.proofs.Common.{◌≡◌, ◌+◌, ◌*◌, ◌^◌, ◌≤◌, length, ap, ◌∙◌, arith, rules}
use Rattle.std.proofs.lemmas.Bool.{and_from, eq-eqb, le-leb, cond-true}
use Rattle.hash.specs.Digests.{digest_len, parts_limit}
use Rattle.header.specs.Fields.{fields_of}
use Rattle.header.specs.Sizes.{depth, roots_len}
use Rattle.commitment.specs.Values.{tree_fits, value_tree}
use Rattle.commitment.specs.Roots.{roots_of}
use Rattle.commitment.proofs.Fitting.{cells_measured, roots_most}
use Rattle.commitment.proofs.Trees.{tree_is}
use Rattle.image.proofs.lay_out.put_data_tree.Goals as goal

pub slice_bounds-space-end : goal.slice_bounds-space-end
slice_bounds-space-end g c = roots_most c.args.cells.now

pub slice_bounds-roots-end : goal.slice_bounds-roots-end
slice_bounds-roots-end g c = let most : c.args.cells.now.lengths.roots ≤ 4096 = roots_most c.args.cells.now in search rules

pub returns : goal.returns
returns g c =
    let f = g.H.Hash.meaning in
    let s = c.args.cells.now in
    let h = fields_of s.header.now in
    let n = s.lengths in
    let sq = s.shares.now in
    let m = cells_measured s.header.now n s.measured in
    let most : n.roots ≤ 4096 = roots_most s in
    let size : n.roots ≡ roots_len h = ap (λ l. l.roots) s.measured in
    let long : length c.roots.new.roots ≡ n.roots = search rules in
    let roots_are : c.roots.new.roots ≡ roots_of f h sq = search rules in
    let levels : n.depth + 1 ≡ depth h + 1 = ap (λ l. l.depth + 1) s.measured in
    c.value_tree.ensures.written
    ∙ cond-true (tree_fits (n.depth + 1) digest_len (length c.roots.new.roots) (length c.args.tree.now)) _ _
    (and_from _ _ (tree_is (n.depth + 1) (length c.args.tree.now) (omega (arith, m.deep)) (omega (arith, m.data_tree, m.above)))
    (and_from _ _ (le-leb digest_len parts_limit (omega arith)) (eq-eqb (length c.roots.new.roots) (2 ^ (n.depth + 1) * digest_len) (omega (arith, m.roots, m.above)))))
    ∙ ap (value_tree f (n.depth + 1) digest_len) roots_are
    ∙ ap (λ d. value_tree f d digest_len (roots_of f h sq)) levels
