use Rattle.std.proofs.Common.{◌≡◌, ℕ, ◌+◌, ◌-◌, ◌*◌, ◌<◌, List, length, ap, ◌∙◌, arith}
use Rattle.octets.proofs.Shares.{share_read, share_length, put_more}
use Rattle.galois.specs.Field.{mul}
use Rattle.codes.specs.Words.{at}
use Rattle.erasure.specs.Weights.{numerator, weight_by}
use Rattle.erasure.proofs.given.Given.weight_rows.Goals as goal

pub loop-i-preserved : goal.loop-i-preserved
loop-i-preserved c =
    let i : ℕ = c.loop-i.i in
    let ps : List ℕ = c.args.self.now.places.now in
    let k : ℕ = length ps in
    let rows : List ℕ = c.loop-i.rows in
    let long : length rows ≡ 2 * k * k = c.loop-i.auto.rows ∙ c.requires.table in
    let factors : List ℕ = c.args.shares.now in
    let inside : i < 2 * k = omega arith in
    put_more k i (2 * k) (i * k + k - i * k) rows c.weight_row.new.row long inside
    (c.weight_row.auto.row ∙ ap length (share_read k i rows) ∙ share_length k i (2 * k) rows long inside)
    (λ i j. weight_by (mul (at c.args.symbols.now i) (numerator k (at ps) i)) (at factors j) i (at ps j))
    c.loop-i.invariant
    (λ j hj. c.weight_row.ensures j hj
    ∙ ap (λ (x : ℕ). weight_by x (at factors j) i (at ps j))
    (c.product-of_symbol.ensures ∙ ap (mul (at c.args.symbols.now i)) c.numerator.ensures))
