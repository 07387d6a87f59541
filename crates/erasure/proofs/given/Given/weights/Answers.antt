use Rattle.std.proofs.Common.{ℕ, ◌<◌, List, length, ap, ◌∙◌, ap₂, arith}
use Rattle.galois.specs.Field.{mul, inv}
use Rattle.codes.specs.Code.{scaled_weight}
use Rattle.codes.specs.Words.{at}
use Rattle.erasure.specs.Weights.{numerator, denominator, weight_by}
use Rattle.erasure.proofs.Factors.{weight_by_lem}
use Rattle.erasure.proofs.given.Given.weights.Goals as goal

pub returns : goal.returns
unfolding scaled_weight
returns g c = λ i hi j hj.
    let ps : List ℕ = c.args.self.now.places.now in
    let k : ℕ = length ps in
    let pl = c.args.self.now.apart in
    let v : ℕ → ℕ = g.S.Scaled.factor k in
    let few : k < 33 = c.args.self.now.few in
    c.weight_rows.ensures i hi j hj
    ∙ ap₂ (λ (x y : ℕ). weight_by (mul x (numerator k (at ps) i)) y i (at ps j)) (c.symbol_factors.ensures i hi)
    (c.share_factors.ensures j hj ∙ ap (λ (x : ℕ). mul (inv x) (denominator k (at ps) j)) (c.symbol_factors.ensures (at ps j) (pl.below j hj)))
    ∙ weight_by_lem k (omega arith) (at ps) pl v (g.met.S.Scaled.units k (omega arith)) i j hi hj
