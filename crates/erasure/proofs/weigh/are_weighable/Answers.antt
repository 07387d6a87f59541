use Rattle.std.proofs.Common.{◌≡◌, ℕ, ◌*◌, ◌≤◌, Bool, true, false, ◌&&◌, eqb, List, length, sym, ap, ◌∙◌, arith}
use Rattle.std.proofs.lemmas.Nat.{mul-le}
use Rattle.erasure.specs.Limits.{ok_width}
use Rattle.erasure.specs.Places.{rising_below}
use Rattle.erasure.specs.Weights.{weighable}
use Rattle.erasure.proofs.Bounds.{width_most}
use Rattle.erasure.proofs.weigh.are_weighable.Goals as goal

no_width : (ps : List ℕ) (n : ℕ) → ok_width (length ps) ≡ false → weighable ps n ≡ false
unfolding weighable
no_width ps n e = ap (λ t. t && (rising_below (2 * length ps) ps && eqb n (2 * length ps * length ps))) e

by_rise : (ps : List ℕ) (n : ℕ) (t : Bool) → ok_width (length ps) ≡ true → rising_below (2 * length ps) ps ≡ t
    → weighable ps n ≡ (t && eqb n (2 * length ps * length ps))
unfolding weighable
by_rise ps n t e r =
    ap (λ w. w && (rising_below (2 * length ps) ps && eqb n (2 * length ps * length ps))) e ∙ ap (λ w. w && eqb n (2 * length ps * length ps)) r

pub returns-then-not-ok_width : goal.returns-then-not-ok_width
returns-then-not-ok_width c = sym (no_width c.args.places.now c.args.n (sym c.if-not-ok_width.ensures))

pub overflow_mul-result-then-are_rising : goal.overflow_mul-result-then-are_rising
overflow_mul-result-then-are_rising c =
    let k : ℕ = length c.args.places.now in
    let l : k ≤ 32 = width_most k (sym c.if-not-ok_width.ensures) in
    let m : 2 * k * k ≤ 64 * 32 = mul-le (2 * k) k 64 32 (omega arith) l in
    record { fits = omega arith }

pub returns-then-are_rising : goal.returns-then-are_rising
returns-then-are_rising c =
    sym (by_rise c.args.places.now c.args.n true (sym c.if-not-ok_width.ensures) (sym c.if-are_rising.ensures))

pub returns-else-are_rising : goal.returns-else-are_rising
returns-else-are_rising c =
    c.if-are_rising.false
    ∙ sym (by_rise c.args.places.now c.args.n false (sym c.if-not-ok_width.ensures) (sym c.if-are_rising.ensures))
