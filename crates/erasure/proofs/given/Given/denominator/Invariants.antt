use Rattle.std.proofs.Common.{◌≡◌}
use lib.Bits.{bit_xor}
use Rattle.galois.specs.Field.{mul, inv}
use Rattle.codes.specs.Over.{over, except}
use Rattle.codes.specs.Words.{at}
use Rattle.erasure.proofs.given.Given.denominator.Given as goal

abbrev pub invariant-loop-m : goal.invariant-loop-m
invariant-loop-m l = l.all ≡ over mul 1 l.m (except 1 l.j (λ m. inv (bit_xor (at l.self.places.now l.j) (at l.self.places.now m))))
