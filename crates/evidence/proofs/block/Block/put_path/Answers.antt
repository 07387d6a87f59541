use Rattle.std.proofs.Common.{◌+◌, ◌++◌, ap, ◌∙◌}
use Rattle.hash.specs.Digests.{digest_len}
use Rattle.merkle.specs.Layout.{path_of}
use Rattle.header.specs.Fields.{fields_of}
use Rattle.header.specs.Lines.{line_of, place_on}
use Rattle.header.specs.Sizes.{depth, line_number}
use Rattle.commitment.specs.Values.{value_tree}
use Rattle.commitment.specs.Roots.{line_tree}
use Rattle.evidence.specs.Paths.{evidence_path}
use Rattle.evidence.proofs.block.Block.put_path.Goals as goal

pub returns : goal.returns
unfolding evidence_path
returns g c =
    let f = g.H.Hash.meaning in
    let s = c.args.self.now in
    let h = fields_of s.cells.header.now in
    let axis = c.args.axis in
    let line = c.line_number-line.ensures ∙ ap (line_number h axis) c.line.ensures in
    ap (λ x. x ++ c.put_data_path.new.out)
    (c.put_axis_path.ensures ∙ ap (λ p. path_of (depth h) p (line_tree f h s.cells.shares.now c.line_number-line.result)) c.place-place.ensures
    ∙ ap (λ i. path_of (depth h) (place_on axis c.args.cell.row c.args.cell.col) (line_tree f h s.cells.shares.now i)) line)
    ∙ ap (λ x. path_of (depth h) (place_on axis c.args.cell.row c.args.cell.col) (line_tree f h s.cells.shares.now (line_number h axis (line_of axis c.args.cell.row c.args.cell.col))) ++ x)
    (c.put_data_path.ensures ∙ ap (λ i. path_of (depth h + 1) i (value_tree f (depth h + 1) digest_len s.roots.now)) line)
