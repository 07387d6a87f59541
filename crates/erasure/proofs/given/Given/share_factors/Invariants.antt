use Rattle.std.proofs.Common.{◌≡◌, ℕ, ◌<◌, length, get_or}
use Rattle.galois.specs.Field.{mul, inv}
use Rattle.codes.specs.Words.{at}
use Rattle.erasure.specs.Weights.{denominator}
use Rattle.erasure.proofs.given.Given.share_factors.Given as goal

abbrev pub invariant-loop-j : goal.invariant-loop-j
invariant-loop-j l =
    (j : ℕ) → j < l.j
    → get_or l.factors j 0 ≡ mul (inv (at l.symbols (at l.self.places.now j))) (denominator (length l.self.places.now) (at l.self.places.now) j)
