use Rattle.std.proofs.Common.{◌≡◌, ℕ, List, length, ap, ◌∙◌, arith}
use lib.Bits.{bit_xor}
use Rattle.galois.specs.Field.{mul, inv}
use Rattle.codes.specs.Over.{over, except}
use Rattle.codes.specs.Words.{at}
use Rattle.erasure.specs.Weights.{denominator}
use Rattle.erasure.proofs.Factors.{product_none, except_more, except_skip}
use Rattle.erasure.proofs.given.Given.denominator.Goals as goal
use Rattle.erasure.proofs.given.Given.denominator.Goals.{then-m-j, else-m-j}

abbrev factor : List ℕ → ℕ → ℕ → ℕ
factor ps j m = inv (bit_xor (at ps j) (at ps m))

pub loop-m-init : goal.loop-m-init
loop-m-init c = product_none (except 1 c.args.j (factor c.args.self.now.places.now c.args.j))

pub loop-m-preserved : goal.loop-m-preserved
loop-m-preserved c =
    elim c.if-m-j.branch [
      | then-m-j w ↦ w.all-is ∙ w.product-all.ensures ∙ ap (λ (x : ℕ). mul x c.loop-m.all) w.inverse.ensures
          ∙ except_more c.loop-m.m c.args.j c.loop-m.all (factor c.args.self.now.places.now c.args.j) w.if-m-j.true c.loop-m.invariant
      | else-m-j w ↦ w.all-is
          ∙ except_skip c.loop-m.m c.args.j c.loop-m.all (factor c.args.self.now.places.now c.args.j) w.if-m-j.false c.loop-m.invariant
    ]

pub returns : goal.returns
unfolding denominator
returns c =
    let e : c.loop-m.m ≡ length c.args.self.now.places.now = omega arith in
    c.loop-m.invariant ∙ ap (λ (n : ℕ). over mul 1 n (except 1 c.args.j (factor c.args.self.now.places.now c.args.j))) e
