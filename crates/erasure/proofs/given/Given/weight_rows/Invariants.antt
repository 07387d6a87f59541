use Rattle.std.proofs.Common.{◌≡◌, ℕ, ◌<◌, length}
use Rattle.octets.specs.Shares.{byte_of}
use Rattle.galois.specs.Field.{mul}
use Rattle.codes.specs.Words.{at}
use Rattle.erasure.specs.Weights.{numerator, weight_by}
use Rattle.erasure.proofs.given.Given.weight_rows.Given as goal

abbrev pub invariant-loop-i : goal.invariant-loop-i
invariant-loop-i l =
    (i : ℕ) → i < l.i → (j : ℕ) → j < length l.self.places.now
    → byte_of (length l.self.places.now) i j l.rows
    ≡ weight_by (mul (at l.symbols i) (numerator (length l.self.places.now) (at l.self.places.now) i)) (at l.shares j) i (at l.self.places.now j)
