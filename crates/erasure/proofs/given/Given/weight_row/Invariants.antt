use Rattle.std.proofs.Common.{◌≡◌, ℕ, ◌<◌, get_or}
use Rattle.codes.specs.Words.{at}
use Rattle.erasure.specs.Weights.{weight_by}
use Rattle.erasure.proofs.given.Given.weight_row.Given as goal

abbrev pub invariant-loop-j : goal.invariant-loop-j
invariant-loop-j l = (j : ℕ) → j < l.j → get_or l.row j 0 ≡ weight_by l.of_symbol (at l.shares j) l.i (at l.self.places.now j)
