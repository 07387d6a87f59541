use Rattle.std.proofs.Common.{◌≡◌, ◌+◌, ◌*◌, length, ap, ◌∙◌, arith}
use Rattle.octets.specs.Written.{written}
use Rattle.octets.proofs.Shares.{share_length}
use Rattle.octets.proofs.Cells.{cell_below}
use Rattle.erasure.proofs.Bounds.{size_most}
use Rattle.fraud.specs.Charge.{block_of}
use Rattle.header.specs.Sizes.{width, depth, cell_number, path_len, line_number}
use Rattle.evidence.specs.Paths.{cell_share, evidence_path}
use Rattle.extraction.proofs.Fitting.{evidence_granted}
use Rattle.extraction.proofs.Searches.{answered, two_fits, finds_evidence}
use Rattle.extraction.proofs.comparison.Comparison.compare_evidence.Goals as goal

pub returns : goal.returns
returns g c =
    let s = c.args.self.now in
    let h = s.charge.header.now in
    let x = block_of s.charge in
    let f = g.H.Hash.meaning in
    let sq = s.square.now in
    let roots = s.roots.now in
    let r = c.args.cell.row in
    let col = c.args.cell.col in
    let axis = c.args.axis in
    let p = c.requires.paths in
    let cell = c.requires.cell in
    let shown = c.args.shown in
    let deep : c.lengths-depth.result.depth ≡ depth x = ap (λ l. l.depth) c.lengths-depth.ensures in
    let own : c.evidence_of.new.path ≡ evidence_path f x sq roots axis r col =
    c.evidence_of.ensures.written
    ∙ ap (λ o. written o (evidence_path f x sq roots axis r col) c.args.own.now)
    (evidence_granted g.H.Hash.KIND x r col (length sq) (length roots) (length c.args.own.now) c.requires.kinds cell.0 cell.1 s.squared s.rooted p.1.1) in
    let long : length c.evidence_of.new.path ≡ path_len x = c.evidence_of.auto.path ∙ p.1.1 in
    let size : length c.cell_share.result.now ≡ h.s =
    ap length c.cell_share.ensures ∙ share_length h.s (cell_number x r col) (width x * width x) sq s.squared (cell_below (width x) (width x) r col cell.0 cell.1) in
    answered c.unwrap_or.ensures (finds_evidence x axis r col c.lengths-depth.result.depth c.place.result c.line_number.result deep c.place.ensures (c.line_number.ensures ∙ ap (line_number x axis) c.line.ensures)
    f shown.value.now c.cell_share.result.now (cell_share x sq r col) shown.path.now c.evidence_of.new.path _ _ _ _ _ _
    p.1.0 long c.cell_share.ensures own
    (c.find_collision_through.ensures.finds
    (two_fits c.lengths-depth.result.depth h.s (2 * depth x + 1) _ _ _ _ _ _ (omega arith) (size_most h.s h.size) p.0 size p.1.0 long (omega arith) (omega arith))))
