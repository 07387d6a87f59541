use Rattle.std.proofs.Common.{◌≡◌, true, length, nat_lt, ◌==◌, ◌&&◌, sym, ap, ◌∙◌, arith}
use Rattle.std.proofs.lemmas.Bool.{and_from, lt-ltb, eq-eqb, cond-true}
use Rattle.merkle.specs.Climb.{join_of, plain_rule}
use Rattle.merkle.specs.Layout.{tree_layout}
use Rattle.header.specs.Fields.{fields_of}
use Rattle.header.specs.Sizes.{line_count, axis_tree_len}
use Rattle.commitment.specs.Roots.{line_tree, line_leaf}
use Rattle.commitment.proofs.Fitting.{cells_measured}
use Rattle.commitment.proofs.Trees.{grown_over, tree_is}
use Rattle.commitment.proofs.cells.Cells.line_tree.Goals as goal

pub returns : goal.returns
unfolding line_tree
returns g c =
    let f = g.H.Hash.meaning in
    let s = c.args.self.now in
    let h = fields_of s.header.now in
    let m = cells_measured s.header.now s.lengths s.measured in
    let n = c.args.n in
    let sq = s.shares.now in
    let e = s.measured in
    let fits : (nat_lt n (line_count h) && length c.args.tree.now == axis_tree_len h) ≡ true =
    and_from _ _ (lt-ltb n (line_count h) (omega (arith, ap (λ l. l.lines) e)))
    (eq-eqb (length c.args.tree.now) (axis_tree_len h) (omega (arith, ap (λ l. l.axis_tree) e))) in
    record {
      answer = c.grow.ensures.answer ∙ tree_is s.lengths.depth (length c.put_line.new.entries) (omega (arith, m.deep)) (omega (arith, m.axis_tree, m.power)) ∙ sym fits;
      written =
          grown_over f (line_leaf f s.lengths.width s.lengths.share sq n) s.lengths.depth c.put_line.new.entries _ (omega (arith, m.deep)) (omega (arith, m.axis_tree, m.power))
          (λ j l. c.put_line.ensures j (omega (arith, m.power))) c.grow.ensures.written
          ∙ ap (λ l. tree_layout (join_of plain_rule f) l.depth (line_leaf f l.width l.share sq n)) e
          ∙ sym (cond-true (nat_lt n (line_count h) && length c.args.tree.now == axis_tree_len h) _ _ fits);
    }
