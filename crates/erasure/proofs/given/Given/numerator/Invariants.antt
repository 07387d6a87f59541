use Rattle.std.proofs.Common.{◌≡◌}
use lib.Bits.{bit_xor}
use Rattle.galois.specs.Field.{mul}
use Rattle.codes.specs.Over.{over}
use Rattle.codes.specs.Words.{at}
use Rattle.erasure.proofs.given.Given.numerator.Given as goal

abbrev pub invariant-loop-place : goal.invariant-loop-place
invariant-loop-place l = l.all ≡ over mul 1 l.place-index (λ m. bit_xor l.i (at l.self.places.now m))
