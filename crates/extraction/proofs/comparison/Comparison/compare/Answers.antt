use Rattle.std.proofs.Common.{◌+◌, sym, subst}
use Rattle.collisions.specs.Finding.{Finds}
use Rattle.merkle.specs.Climb.{slot, from_leaf}
use Rattle.fraud.specs.Charge.{block_of, case_in}
use Rattle.header.specs.Lines.{axis_by}
use Rattle.header.specs.Sizes.{depth, line_number}
use Rattle.evidence.specs.Evidence.{evidence_rungs}
use Rattle.evidence.specs.Paths.{evidence_path}
use Rattle.fraudproof.specs.Witness.{values_of}
use Rattle.fraud.specs.Accepted.{claim_rungs, witness_row, witness_col}
use Rattle.extraction.specs.Extracted.{data_path, own_share}
use Rattle.extraction.proofs.Comparing.{compares_witness, compares_claim}
use Rattle.extraction.proofs.comparison.Comparison.compare.Goals as goal

pub returns-in-Some : goal.returns-in-Some
returns-in-Some g c =
    let s = c.args.self.now in
    let h = block_of s.charge in
    let f = g.H.Hash.meaning in
    let claim = (case_in s.charge).claim in
    let w = values_of c.in-Some.w in
    let row = witness_row claim w in
    let col = witness_col claim w in
    compares_witness h s.charge.proof s.charge.formed s.square.now w (sym c.in-Some.ensures.value)
    f g.met.H.Hash.sized s.charge.header.now.width s.squared _ _ _ _ _
    (subst (λ roots. Finds f (evidence_rungs h (axis_by w.axis) row col w.path) (evidence_rungs h (axis_by w.axis) row col (evidence_path f h s.square.now roots (axis_by w.axis) row col)) w.share (own_share h s.square.now claim w)
    c.collide_at_witness.result c.args.string_a.now c.args.string_b.now c.collide_at_witness.new.string_a c.collide_at_witness.new.string_b) c.requires.own c.collide_at_witness.ensures)

pub returns-in-None : goal.returns-in-None
returns-in-None g c =
    let s = c.args.self.now in
    let h = block_of s.charge in
    let p = s.charge.proof in
    let f = g.H.Hash.meaning in
    let n = line_number h (axis_by p.axis) p.index in
    compares_claim h p s.charge.formed f g.met.H.Hash.sized s.charge.header.now.width s.square.now s.squared (sym c.in-None.ensures.value) _ _ _ _ _
    (subst (λ roots. Finds f (claim_rungs h (case_in s.charge).claim) (from_leaf (depth h + 1) n (data_path f h roots n)) p.root.now (slot n roots) c.collide_at_claim.result c.args.string_a.now c.args.string_b.now c.collide_at_claim.new.string_a c.collide_at_claim.new.string_b) c.requires.own c.collide_at_claim.ensures)
