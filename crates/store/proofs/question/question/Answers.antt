use Rattle.std.proofs.Common.{true, false, ◌&&◌, eqb, sym, refl, ap, ◌∙◌}
use Rattle.header.specs.Fields.{fields_of}
use Rattle.store.proofs.Asking.{question_by}
use Rattle.store.proofs.question.question.Goals as goal

pub returns-then-not-has_cell : goal.returns-then-not-has_cell
returns-then-not-has_cell c =
    let a = c.args in
    sym (question_by a.k a.s a.cell.row a.cell.col a.share a.path (fields_of c.in_ok-h.h) c.in_ok-h.ensures false _ c.if-not-has_cell.ensures refl)

pub returns-then-not-is_evidence : goal.returns-then-not-is_evidence
returns-then-not-is_evidence c =
    let a = c.args in
    sym (question_by a.k a.s a.cell.row a.cell.col a.share a.path (fields_of c.in_ok-h.h) c.in_ok-h.ensures true false c.if-not-has_cell.ensures
    (c.if-not-is_evidence.ensures ∙ ap (λ l. eqb a.share l.share && eqb a.path l.path) c.lengths.ensures))

pub returns : goal.returns
returns c =
    let a = c.args in
    sym (question_by a.k a.s a.cell.row a.cell.col a.share a.path (fields_of c.in_ok-h.h) c.in_ok-h.ensures true true c.if-not-has_cell.ensures
    (c.if-not-is_evidence.ensures ∙ ap (λ l. eqb a.share l.share && eqb a.path l.path) c.lengths.ensures))
