use Rattle.std.proofs.Common.{◌*◌, take, ◌∙◌, arith, length-take}
use Rattle.hash.specs.Digests.{digest_len}
use Rattle.merkle.specs.Climb.{join_of, plain_rule, slot}
use Rattle.merkle.proofs.Same.{node_same}
use Rattle.commitment.specs.Roots.{line_leaf}
use Rattle.commitment.proofs.Fitting.{cells_measured}
use Rattle.commitment.proofs.Folds.{slot_take}
use Rattle.commitment.proofs.cells.Cells.hash_row.Goals as goal

pub row_root-requires : goal.row_root-requires
row_root-requires g c =
    let s = c.args.self.now in
    let m = cells_measured s.header.now s.lengths s.measured in
    (m.deep, (simp length-take (omega (arith, m.power)), omega (arith, m.power, m.wide)))

pub returns-clause-root : goal.returns-clause-root
returns-clause-root g c =
    let s = c.args.self.now in
    let m = cells_measured s.header.now s.lengths s.measured in
    let w = s.lengths.width in
    let row = c.put_line.new.entries in
    c.row_root.ensures
    ∙ node_same (join_of plain_rule g.H.Hash.meaning) (λ p. slot p (take (digest_len * w) row)) (line_leaf g.H.Hash.meaning w s.lengths.share s.shares.now c.args.i) s.lengths.depth 0
    (λ j l. slot_take j (digest_len * w) row (omega (arith, m.power)) ∙ c.put_line.ensures j (omega (arith, m.power)))
