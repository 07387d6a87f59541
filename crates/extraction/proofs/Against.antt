-- The first witness that fails a test.
use Rattle.std.proofs.Common.{◌≡◌, ℕ, zero, suc, ◌+◌, ◌<◌, Bool, true, false, List, [], ◌∷◌, map, Some, None, Option, sym, ap, ◌∙◌, subst, inl, inr, arith}
use Rattle.std.specs.List.{range_with_len}
use Rattle.std.proofs.lemmas.Bool.{cond-true, cond-false, cases_Bool}
use Rattle.wire.specs.Values.{Witness}
use Rattle.fraud.specs.Accepted.{Every}
use Rattle.extraction.specs.Extracted.{first_against}

-- what some element is
pub some_witness : (v w : Witness) → ◌≡◌ {A = Option Witness} (Some v) (Some w) → v ≡ w
some_witness v w e = cc

some_none : {A : Type 0} (w : Witness) → ◌≡◌ {A = Option Witness} (Some w) None → A
some_none w e = absurd (let z : ◌≡◌ {A = ℕ} 0 1 = cc in omega arith)

module _ (test : Witness → Bool) where
  -- where none fails, the test holds of every one
  pub none_against : (ws : List Witness) → first_against test ws ≡ None → Every (λ w. test w ≡ true) ws
  unfolding first_against Every
  none_against [] e = tt
  none_against (w ∷ ws) e =
      elim (cases_Bool (test w)) [
        | inl t ↦ (t, none_against ws (sym (cond-true (test w) _ _ t) ∙ e))
        | inr f ↦ some_none w (sym (cond-false (test w) _ _ f) ∙ e)
      ]

  -- of the one that fails, what holds of every one holds, and the test fails
  pub against_is : (P : Witness → Type 0) (ws : List Witness) (w : Witness) → Every P ws → first_against test ws ≡ Some w → P w × (test w ≡ false)
  unfolding first_against Every
  against_is P [] w h e = some_none w (sym e)
  against_is P (v ∷ ws) w h e =
      elim (cases_Bool (test v)) [
        | inl t ↦ against_is P ws w h.1 (sym (cond-true (test v) _ _ t) ∙ e)
        | inr f ↦
            let same : v ≡ w = some_witness v w (sym (cond-false (test v) _ _ f) ∙ e) in
            (subst P same h.0, ap test (sym same) ∙ f)
      ]

  -- going through the witnesses, of which some are left
  module _ (ws left : List Witness) (e : first_against test ws ≡ first_against test left) where
    pub against_later : (w : Witness) (others : List Witness) → left ≡ w ∷ others → test w ≡ true → first_against test ws ≡ first_against test others
    unfolding first_against
    against_later w others cut t = e ∙ ap (first_against test) cut ∙ cond-true (test w) _ _ t

    pub against_here : (w : Witness) (others : List Witness) → left ≡ w ∷ others → test w ≡ false → first_against test ws ≡ Some w
    unfolding first_against
    against_here w others cut f = e ∙ ap (first_against test) cut ∙ cond-false (test w) _ _ f

    pub against_none : left ≡ [] → first_against test ws ≡ None
    unfolding first_against
    against_none none = e ∙ ap (first_against test) none

-- what holds of every one holds of the first and of the others
pub every_cut : (P : Witness → Type 0) (left others : List Witness) (w : Witness) → left ≡ w ∷ others → Every P left → P w × Every P others
unfolding Every
every_cut P left others w cut h = subst (Every P) cut h

-- what holds of each witness by its number holds of every one
every_upto : (P : Witness → Type 0) (g : ℕ → Witness) (a n : ℕ) → ((j : ℕ) → j < n → P (g (a + j))) → Every P (map g (range_with_len a n))
unfolding Every
every_upto P g a zero h = tt
every_upto P g a (suc n) h = (
  subst (λ i. P (g i)) (let e : a + 0 ≡ a = omega arith in e) (h 0 (omega arith)),
  every_upto P g (a + 1) n (λ j l. subst (λ i. P (g i)) (let e : a + suc j ≡ a + 1 + j = omega arith in e) (h (suc j) (omega arith))),
)

pub every_made : (P : Witness → Type 0) (g : ℕ → Witness) (n : ℕ) → ((j : ℕ) → j < n → P (g j)) → Every P (map g (range_with_len 0 n))
every_made P g n h = every_upto P g 0 n (λ j l. subst (λ i. P (g i)) (let e : j ≡ 0 + j = omega arith in e) (h j l))
