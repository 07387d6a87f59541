-- The two strings of a collision that climbs show are equally long.
use Rattle.std.proofs.Common.{◌≡◌, ℕ, suc, List, ◌∷◌, ◌++◌, length, Some, None, Option, sym, ap, ◌∙◌, arith, length-append}
use Rattle.std.proofs.lemmas.Bool.{cond_both}
use Rattle.hash.specs.Digests.{digest_len}
use Rattle.merkle.specs.Tree.{right, left}
use Rattle.merkle.specs.Climb.{Rung, inputs}
use Rattle.merkle.specs.Binding.{Two, collides, found, first_collision, Alike, ends, leaves, pairs, Digest}

abbrev pub Even : Option Two → Type 0
Even None = Unit {0}
Even (Some t) = length t.one ≡ length t.other

module _ (f : List ℕ → List ℕ) (sized : (m : List ℕ) → length (f m) ≡ digest_len) where
  same_long : (m n : List ℕ) → length (f m) ≡ length (f n)
  same_long m n = sized m ∙ sym (sized n)

  pub even : {rs qs : List Rung} → Alike Digest rs qs → (x y : List ℕ) → length x ≡ length y → Even (found f rs qs x y)
  unfolding first_collision inputs
  even ends x y h = tt
  even (leaves a) x y h =
      cond_both (collides f (0 ∷ x) (0 ∷ y)) _ _ Even (λ e. ap suc h)
      (λ e. even a (f (0 ∷ x)) (f (0 ∷ y)) (same_long _ _))
  even (pairs right {y = u} {y' = w} q q' a) x y h =
      cond_both (collides f (1 ∷ (x ++ u)) (1 ∷ (y ++ w))) _ _ Even (λ e. ap suc (simp length-append (omega arith)))
      (λ e. even a (f (1 ∷ (x ++ u))) (f (1 ∷ (y ++ w))) (same_long _ _))
  even (pairs left {y = u} {y' = w} q q' a) x y h =
      cond_both (collides f (1 ∷ (u ++ x)) (1 ∷ (w ++ y))) _ _ Even (λ e. ap suc (simp length-append (omega arith)))
      (λ e. even a (f (1 ∷ (u ++ x))) (f (1 ∷ (w ++ y))) (same_long _ _))
