use Rattle.std.proofs.Common.{◌≡◌, ℕ, ◌≤◌, length, replicate, refl, sym, ap, ◌∙◌, arith}
use Rattle.octets.specs.Shares.{share}
use Rattle.merkle.specs.Climb.{Node, plain_rule, join_of, leaf_of}
use Rattle.merkle.specs.Tree.{root}
use Rattle.erasure.specs.Rows.{row_sum}
use Rattle.header.specs.Fields.{fields_of}
use Rattle.header.specs.Sizes.{depth}
use Rattle.header.proofs.Measures.{measured}
use Rattle.commitment.proofs.Trees.{grown_over, root_cut}
use Rattle.fraudproof.specs.Proof.{witness_len}
use Rattle.fraud.proofs.sums.Sums.root.Goals as goal

pub returns : goal.returns
returns g c =
    let f = g.H.Hash.meaning in
    let s = c.args.self.now in
    let h = s.shown.header.now in
    let x = fields_of h in
    let m = measured x c.lengths-depth.result h.width h.size c.lengths-depth.ensures in
    let leaf : ℕ → Node = λ j. leaf_of plain_rule f (row_sum (share h.k j s.rows.now) (witness_len x) 9 h.s s.shown.records.now) in
    let d = c.lengths-depth.result.depth in
    let deep : d ≤ 16 = omega arith in
    let deep-is : d ≡ depth x = ap (λ l. l.depth) c.lengths-depth.ensures in
    let wide = ap (λ l. l.width) c.lengths-depth.ensures in
    let room : length c.put_nodes.new.entries ≡ c.lengths-depth.result.axis_tree = c.put_nodes.auto.entries ∙ c.requires.1 ∙ sym (ap (λ l. l.axis_tree) c.lengths-depth.ensures) in
    let lines = m.axis_tree in
    let power = m.power in
    let tree = grown_over f leaf d c.put_nodes.new.entries _ deep (omega arith) (λ j l. c.put_nodes.ensures j (omega arith)) c.grow.ensures.written in
    root_cut f g.met.H.Hash.sized leaf d _ (replicate 32 0) _ deep (λ i l. g.met.H.Hash.sized _) tree refl c.tree_root.ensures.written ∙ ap (λ n. root (join_of plain_rule f) n leaf) deep-is
