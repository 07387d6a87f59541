use Rattle.std.proofs.Common.{◌≡◌, ℕ, List, Ok, Err, Result, ap, ◌∙◌, Bor, rules}
use Rattle.std.specs.Result.{MatchResult, IsErrAnd}
use Rattle.std.proofs.lemmas.Result.{err_from_is_err_and}
use Rattle.octets.specs.Outcome.{outcome_by}
use Rattle.header.specs.Fields.{fields_of}
use Rattle.wire.specs.Parts.{read_of}
use Rattle.wire.specs.Reading.{placed}
use Rattle.wire.specs.Refusals.{told_fault, told_read}
use Rattle.wire.specs.declared.record.Record.{Record}
use Rattle.wire.specs.declared.refusal.Fault.{Fault}
use Rattle.wire.specs.declared.refusal.ReadRefusal.{ReadRefusal}
use Rattle.wire.proofs.Cuts.{at_end, before_end}
use Rattle.wire.proofs.read.read_at.Goals as goal

-- the fault of a record is told with the record's place
put_at : (at : ℕ) (Q : Fault → ReadRefusal → Type 0) → ((e : Fault) (d : ReadRefusal) → Q e d → d ≡ record { fault = e; at = at })
    → (r : Result (Record × Bor (List ℕ)) Fault) (s : Result (Record × Bor (List ℕ)) ReadRefusal) → MatchResult r (λ x. s ≡ Ok x) (λ e. IsErrAnd s (Q e))
    → outcome_by read_of told_read s ≡ placed at (outcome_by read_of told_fault r)
put_at at Q q (Ok x) s m = ap (outcome_by read_of told_read) m
put_at at Q q (Err e) s m =
    let p = err_from_is_err_and s m in
    ap (outcome_by read_of told_read) p.1 ∙ ap (λ d. Err (told_read d)) (q e p.0 p.2)

pub returns-then-is_empty-clause-value : goal.returns-then-is_empty-clause-value
returns-then-is_empty-clause-value c = at_end (fields_of c.args.h.now) c.args.due c.args.at c.args.rest.now c.if-is_empty.ensures

pub returns-clause-value : goal.returns-clause-value
returns-clause-value c =
    put_at c.args.at _ (λ e d p. search rules) _ _ c.map_err.ensures.cases
    ∙ before_end (fields_of c.args.h.now) c.args.due c.args.at c.args.rest.now c.if-is_empty.ensures _ c.read_due.ensures.value
