use Rattle.std.proofs.Common.{◌≡◌, ℕ, ap, ◌∙◌, arith}
use lib.Bits.{bit_xor}
use Rattle.galois.specs.Field.{mul, inv}
use Rattle.codes.specs.Over.{over, except}
use Rattle.codes.specs.Code.{cauchy_scale}
use Rattle.erasure.proofs.Factors.{product_none, except_more, except_skip}
use Rattle.erasure.proofs.kinds.CauchyScaled.factor.Goals as goal
use Rattle.erasure.proofs.kinds.CauchyScaled.factor.Goals.{then-m-i, else-m-i}

abbrev factor : ℕ → ℕ → ℕ
factor i m = inv (bit_xor i m)

pub loop-m-init : goal.loop-m-init
loop-m-init c = product_none (except 1 c.args.i (factor c.args.i))

pub loop-m-preserved : goal.loop-m-preserved
loop-m-preserved c =
    elim c.if-m-i.branch [
      | then-m-i w ↦ w.all-is ∙ w.product-all.ensures ∙ ap (λ (x : ℕ). mul x c.loop-m.all) w.inverse.ensures
          ∙ except_more c.loop-m.m c.args.i c.loop-m.all (factor c.args.i) w.if-m-i.true c.loop-m.invariant
      | else-m-i w ↦ w.all-is ∙ except_skip c.loop-m.m c.args.i c.loop-m.all (factor c.args.i) w.if-m-i.false c.loop-m.invariant
    ]

pub returns : goal.returns
unfolding cauchy_scale
returns c =
    let e : c.loop-m.m ≡ c.args.k = omega arith in
    c.loop-m.invariant ∙ ap (λ (n : ℕ). over mul 1 n (except 1 c.args.i (factor c.args.i))) e
