use Rattle.std.proofs.Common.{◌≡◌, ℕ, length, ap, ◌∙◌, arith}
use lib.Bits.{bit_xor}
use Rattle.galois.specs.Field.{mul}
use Rattle.codes.specs.Over.{over}
use Rattle.codes.specs.Words.{at}
use Rattle.erasure.specs.Weights.{numerator}
use Rattle.erasure.proofs.Factors.{product_none, product_more}
use Rattle.erasure.proofs.given.Given.numerator.Goals as goal

pub loop-place-init : goal.loop-place-init
loop-place-init c = product_none (λ m. bit_xor c.args.i (at c.args.self.now.places.now m))

pub loop-place-preserved : goal.loop-place-preserved
loop-place-preserved c =
    c.product-all.ensures ∙ product_more c.loop-place.place-index c.loop-place.all (λ m. bit_xor c.args.i (at c.args.self.now.places.now m)) c.loop-place.invariant

pub returns : goal.returns
unfolding numerator
returns c =
    let e : c.loop-place.place-index ≡ length c.args.self.now.places.now = omega arith in
    c.loop-place.invariant ∙ ap (λ (n : ℕ). over mul 1 n (λ m. bit_xor c.args.i (at c.args.self.now.places.now m))) e
