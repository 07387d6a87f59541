use Rattle.std.proofs.Common.{◌≡◌, ◌^◌, leb, eqb, length, sym, ap, ◌∙◌, arith}
use Rattle.std.proofs.lemmas.Bool.{and_from, and_parts, cond-true, eqb-true}
use Rattle.layout.specs.Answers.{depth_limit}
use Rattle.merkle.specs.Climb.{join_of, plain_rule}
use Rattle.merkle.specs.Layout.{tree_layout, tree_len}
use Rattle.commitment.specs.Values.{tree_fits, value_leaf, value_tree}
use Rattle.commitment.proofs.Trees.{grown_over}
use Rattle.commitment.proofs.values.value_tree.Goals as goal

pub returns-clause-written : goal.returns-clause-written
unfolding value_tree
returns-clause-written g c =
    let f = g.H.Hash.meaning in
    let r = c.in_ok-run.run' in
    let is = c.in_ok-run.ensures.run in
    let d = c.args.depth in
    let n = length c.args.tree.now in
    let room = and_parts (leb d depth_limit) (eqb n (tree_len d)) (sym c.if-not-is_tree.ensures) in
    let fits = and_from _ _ (sym c.if-not-is_tree.ensures) (and_parts _ _ (sym c.in_ok-run.ensures.answer)).1 in
    let long : length c.put_leaves.new.entries ≡ tree_len d = c.put_leaves.auto.entries ∙ eqb-true n (tree_len d) room.1 in
    let power : 2 ^ d ≡ 2 ^ r.depth = ap (λ k. 2 ^ k) (sym is.1.1) in
    grown_over f (value_leaf f r.size r.values.now) d c.put_leaves.new.entries _ (omega (arith, r.deep, is.1.1)) long (λ j l. c.put_leaves.ensures j (omega arith)) c.grow.ensures.written
    ∙ ap (λ s. tree_layout (join_of plain_rule f) d (value_leaf f s r.values.now)) is.1.0
    ∙ ap (λ v. tree_layout (join_of plain_rule f) d (value_leaf f c.args.size v)) is.0
    ∙ sym (cond-true (tree_fits d c.args.size (length c.args.values.now) n) _ _ fits)
