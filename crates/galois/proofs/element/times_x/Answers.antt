use Rattle.std.proofs.Common.{◌≡◌, ℕ, ◌*◌, ◌/◌, ◌%◌, sym, ap, ◌∙◌, arith}
use lib.Bits.{bit_xor}
use Rattle.galois.proofs.Steps.{times_x, mul_two}
use Rattle.galois.proofs.element.times_x.Goals as goal

pub returns : goal.returns
unfolding times_x
returns c =
    let e : c.args.a / 128 ≡ c.args.a / 128 % 2 = omega arith in
    ap (λ (x : ℕ). bit_xor (c.args.a % 128 * 2) (x * 29)) e ∙ sym (mul_two c.args.a)
