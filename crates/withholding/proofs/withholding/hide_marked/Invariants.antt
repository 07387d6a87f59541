use Rattle.std.proofs.Common.{◌≡◌, ℕ, ◌+◌, ◌<◌, false, eqb, get_or}
use Rattle.withholding.proofs.withholding.hide_marked.Given as goal

abbrev pub invariant-loop-is_hidden : goal.invariant-loop-is_hidden
invariant-loop-is_hidden l =
    ((j : ℕ) → get_or l.marks.rest.now j 0 ≡ get_or l.fn.marks (l.is_hidden-index + j) 0)
    × ((j : ℕ) → j < l.is_hidden-index → get_or l.hidden j false ≡ eqb (get_or l.fn.marks j 0) 1)
