use Rattle.std.proofs.Common.{◌≡◌, ◌*◌, false, cond, not, eqb, length, get_or, Ok, Err, sym, refl, ap, ◌∙◌, arith}
use Rattle.std.proofs.lemmas.Nat.{mul-le}
use Rattle.std.proofs.lemmas.Bool.{eq-eqb}
use Rattle.octets.specs.Outcome.{plain}
use Rattle.octets.specs.Written.{written}
use Rattle.erasure.proofs.Bounds.{width_most}
use Rattle.store.specs.Meaning.{Meaning}
use Rattle.store.proofs.Asking.{untouched_free}
use Rattle.withholding.specs.Masked.{masked, hiding, all_marks, withhold_outcome}
use Rattle.withholding.proofs.Hiding.{same_hidden}
use Rattle.withholding.proofs.withholding.Withholding.withhold.Goals as goal

pub overflow_mul-w : goal.overflow_mul-w
overflow_mul-w g c = omega (arith, width_most _ (g.S.Store.bounded c.args.self.now.below).0, c.half_width-w.ensures)

pub overflow_mul-w-2 : goal.overflow_mul-w-2
overflow_mul-w-2 g c =
    let w = 2 * c.half_width-w.result in
    let m = width_most _ (g.S.Store.bounded c.args.self.now.below).0 in
    omega (arith, mul-le w w 64 64 (omega (arith, c.half_width-w.ensures)) (omega (arith, c.half_width-w.ensures)))

pub hide-requires : goal.hide-requires
hide-requires g c =
    let w = 2 * c.half_width-w.result in
    let m = width_most _ (g.S.Store.bounded c.args.self.now.below).0 in
    omega (arith, mul-le w w 64 64 (omega (arith, c.half_width-w.ensures)) (omega (arith, c.half_width-w.ensures)))

pub returns : goal.returns
returns g c =
    let a = c.args in
    let m : Meaning = g.S.Store.meaning a.self.now.below in
    let marks = a.marks.now in
    let count : length marks ≡ 2 * m.k * (2 * m.k) = c.if-marks-w.false ∙ ap (λ k. 2 * k * (2 * k)) c.half_width-w.ensures in
    let ok : withhold_outcome m marks ≡ Ok tt =
    ap (λ b. cond (not b) (Err (plain 3)) (cond (not (all_marks marks)) (Err (plain 11)) (Ok tt))) (eq-eqb (length marks) _ count)
    ∙ ap (λ b. cond (not b) (Err (plain 11)) (Ok tt)) (sym c.if-not-all_marks.ensures) in
    record {
      answer = sym ok;
      below = refl;
      hidden =
          same_hidden m (λ i. get_or c.hide.new.hidden i false) (λ i. eqb (get_or marks i 0) 1) c.hide.ensures
          ∙ sym (ap (λ x. written x (hiding m marks) (masked m a.self.now.hidden)) ok);
      refused = untouched_free _ _ _ ok;
    }
