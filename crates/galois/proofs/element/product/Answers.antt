use Rattle.std.proofs.Common.{◌≡◌, ℕ, suc, ◌+◌, ◌-◌, ◌*◌, ◌/◌, ◌%◌, ◌<◌, sym, ap, ◌∙◌, subst, arith}
use lib.Bits.{bit_xor, xor_assoc, xor_zero_r}
use Rattle.galois.specs.Field.{mul}
use Rattle.galois.proofs.Linear.{bit_lt}
use Rattle.galois.proofs.Steps.{times, times_x, times_mul, mul_byte, mul_two}
use Rattle.galois.proofs.element.product.Goals as goal

turn : (i r x x' y p : ℕ) → i < 8 → x' ≡ mul 2 x → bit_xor r (times (8 - i) x y) ≡ p
    → bit_xor (bit_xor r (y % 2 * x)) (times (8 - (i + 1)) x' (y / 2)) ≡ p
unfolding times
turn i r x x' y p h d e =
    let s : suc (8 - (i + 1)) ≡ 8 - i = omega arith in
    ap (λ (z : ℕ). bit_xor (bit_xor r (y % 2 * x)) (times (8 - (i + 1)) z (y / 2))) (d ∙ mul_two x)
    ∙ xor_assoc r (y % 2 * x) (times (8 - (i + 1)) (times_x x) (y / 2))
    ∙ ap (λ (n : ℕ). bit_xor r (times n x y)) s ∙ e

pub loop-i-init : goal.loop-i-init
loop-i-init c = (omega arith, times_mul c.args.a c.args.b (omega arith) (omega arith))

pub overflow_mul-sum : goal.overflow_mul-sum
overflow_mul-sum c = record { fits = bit_lt (c.loop-i.rest % 2) c.loop-i.power (omega arith) c.loop-i.invariant.0 }

pub loop-i-preserved : goal.loop-i-preserved
loop-i-preserved c = (
  subst (λ (x : ℕ). x < 256) (sym c.times_x-power.ensures) (mul_byte 2 c.loop-i.power),
  turn c.loop-i._i c.loop-i.sum c.loop-i.power c.times_x-power.result c.loop-i.rest (mul c.args.a c.args.b)
      c.loop-i-test.true c.times_x-power.ensures c.loop-i.invariant.1,
)

pub returns : goal.returns
unfolding times
returns c =
    let s : 8 - c.loop-i._i ≡ 0 = omega arith in
    sym (xor_zero_r c.loop-i.sum) ∙ ap (λ (n : ℕ). bit_xor c.loop-i.sum (times n c.loop-i.power c.loop-i.rest)) (sym s) ∙ c.loop-i.invariant.1
