use Rattle.std.proofs.Common.{◌≡◌, cond, not, length, Ok, Err, sym, ap, ◌∙◌, ap₂}
use Rattle.std.proofs.lemmas.Bool.{eq-eqb, ne_eqb}
use Rattle.octets.specs.Outcome.{plain}
use Rattle.octets.specs.Written.{written}
use Rattle.header.specs.Fields.{fields_of, shape}
use Rattle.header.proofs.Made.{made}
use Rattle.store.specs.Meaning.{Meaning}
use Rattle.store.proofs.Asking.{untouched_same, untouched_free}
use Rattle.memory.specs.Images.{image_meaning, open_outcome}
use Rattle.memory.proofs.Laid.{laid_out}
use Rattle.memory.proofs.Spots.{open_allowed}
use Rattle.memory.proofs.memory.Memory.open_image.Goals as goal

pub returns-in_err-shape-clause-laid : goal.returns-in_err-shape-clause-laid
returns-in_err-shape-clause-laid c = laid_out c.args.k c.args.s c.args.image.now

pub returns-then-image-lengths : goal.returns-then-image-lengths
returns-then-image-lengths c =
    let a = c.args in
    let n = length a.image.now in
    let q : open_outcome a.k a.s n ≡ Err (plain 3) =
    open_allowed a.k a.s n (fields_of c.in_ok-shape.shape) c.in_ok-shape.ensures
    ∙ ap (λ b. cond (not b) (Err (plain 3)) (Ok tt)) (ne_eqb n _ (λ e. c.if-image-lengths.true (e ∙ sym (ap (λ l. l.image) c.lengths.ensures)))) in
    let old : Meaning = image_meaning a.self.now.image.now a.self.now.shape.k a.self.now.shape.s in
    record {
      answer = sym q;
      opened = sym (ap (λ x. written x (image_meaning a.image.now a.k a.s) old) q);
      refused = untouched_same _ a.self.now;
      laid = laid_out a.k a.s a.image.now;
    }

pub returns : goal.returns
returns c =
    let a = c.args in
    let n = length a.image.now in
    let q : open_outcome a.k a.s n ≡ Ok tt =
    open_allowed a.k a.s n (fields_of c.in_ok-shape.shape) c.in_ok-shape.ensures
    ∙ ap (λ b. cond (not b) (Err (plain 3)) (Ok tt)) (eq-eqb n _ (c.if-image-lengths.false ∙ ap (λ l. l.image) c.lengths.ensures)) in
    let old : Meaning = image_meaning a.self.now.image.now a.self.now.shape.k a.self.now.shape.s in
    let m = made (shape a.k a.s) (fields_of c.in_ok-shape.shape) c.in_ok-shape.ensures in
    record {
      answer = sym q;
      opened =
          ap₂ (λ x y. image_meaning a.image.now x y) (ap (λ h. h.k) m.same) (ap (λ h. h.s) m.same)
          ∙ sym (ap (λ x. written x (image_meaning a.image.now a.k a.s) old) q);
      refused = untouched_free _ _ _ q;
      laid = laid_out a.k a.s a.image.now;
    }
