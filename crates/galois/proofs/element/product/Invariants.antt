use Rattle.std.proofs.Common.{◌≡◌, ◌-◌, ◌<◌}
use lib.Bits.{bit_xor}
use Rattle.galois.specs.Field.{mul}
use Rattle.galois.proofs.Steps.{times}
use Rattle.galois.proofs.element.product.Given as goal

-- what is added up so far, with what is left to add, is the product
abbrev pub invariant-loop-i : goal.invariant-loop-i
invariant-loop-i l = (l.power < 256) × (bit_xor l.sum (times (8 - l._i) l.power l.rest) ≡ mul l.a l.b)
