use Rattle.std.proofs.Common.{eqb, ltb, length, sym, ap, ◌∙◌}
use Rattle.std.proofs.lemmas.Bool.{and_parts, eqb-true, ltb-true}
use Rattle.header.specs.Fields.{fields_of}
use Rattle.header.specs.Sizes.{width, square_len, roots_len}
use Rattle.evidence.specs.Evidence.{verifies}
use Rattle.evidence.specs.Paths.{cell_share, evidence_path}
use Rattle.evidence.proofs.Proving.{own_verifies}
use Rattle.evidence.proofs.write.evidence_of.Goals as goal

pub returns-clause-proves : goal.returns-clause-proves
returns-clause-proves g c ok own root =
    let f = g.H.Hash.meaning in
    let h = fields_of c.args.h.now in
    let sq = c.args.square.now in
    let roots = c.args.roots.now in
    let r = c.args.cell.row in
    let col = c.args.cell.col in
    let axis = c.args.axis in
    let inside = and_parts (ltb r (width h)) (ltb col (width h)) (sym c.if-not-has_cell.ensures) in
    let lengths = and_parts (eqb (length sq) (square_len h)) (eqb (length roots) (roots_len h)) (sym c.in_ok-block.ensures.answer) in
    let block = c.in_ok-block.ensures.block in
    ap (verifies f h r col axis (cell_share h sq r col))
    (c.put_path.ensures
    ∙ ap (λ x. evidence_path f (fields_of x) c.in_ok-block.block.cells.shares.now c.in_ok-block.block.roots.now axis r col) block.0
    ∙ ap (λ x. evidence_path f h x c.in_ok-block.block.roots.now axis r col) block.1.0
    ∙ ap (λ x. evidence_path f h sq x axis r col) block.1.1)
    ∙ own_verifies f g.met.H.Hash.sized h c.args.h.now.width sq roots axis r col (ltb-true r (width h) inside.0) (ltb-true col (width h) inside.1) own
    (eqb-true (length sq) (square_len h) lengths.0) root
