-- Climbs by rows of digests, level by level.
use Rattle.std.proofs.Common.{◌≡◌, ℕ, zero, suc, ◌+◌, ◌-◌, ◌*◌, ◌/◌, ◌<◌, ◌≤◌, true, false, List, [], ◌∷◌, ◌++◌, length, take, drop, Some, None, Option, sym, refl, ap, ◌∙◌, inl, inr, arith}
use Rattle.std.proofs.lemmas.List.{drop-drop, drop-take, take-take, length-drop, length-take-le}
use Rattle.std.proofs.lemmas.Bool.{cond-true, cond-false, cases_Bool}
use Rattle.merkle.specs.Binding.{Two, collides, first_collision, or_else}
use Rattle.merkle.specs.Laws.{FirstInParts}
use Rattle.merkle.proofs.Bound.{none_some}
use Rattle.merkle.proofs.Climbing.{inputs_append, inputs_length}
use Rattle.hash.specs.Digests.{digest_len}
use Rattle.merkle.specs.Tree.{side, sides}
use Rattle.merkle.specs.Climb.{Rule, Rung, beside, rungs, slot, slots, climb, inputs, above, input, plain_rule, from_node}

-- what is left of a climb of d levels after i of them, at place p
abbrev pub left : ℕ → ℕ → ℕ → List ℕ → List Rung
left d i p path = from_node (d - i) p (drop (digest_len * i) path)

pub left_none : (d p : ℕ) (path : List ℕ) → left d 0 p path ≡ from_node d p path
left_none d p path = ap (λ k. from_node k p path) (omega arith)

pub left_more : (d i p : ℕ) (path : List ℕ) → i < d → left d i p path ≡ beside (side p) (slot i path) ∷ left d (i + 1) (p / 2) path
unfolding rungs sides slots
left_more d i p path h =
    let k = d - (i + 1) in
    let one : d - i ≡ suc k = omega arith in
    ap (λ m. from_node m p (drop (digest_len * i) path)) one
    ∙ ap (λ q. beside (side p) (slot i path) ∷ from_node k (p / 2) q) (drop-drop digest_len (digest_len * i) path)
    ∙ ap (λ m. beside (side p) (slot i path) ∷ from_node k (p / 2) (drop m path)) (omega arith)

pub left_all : (d i p : ℕ) (path : List ℕ) → d ≤ i → left d i p path ≡ []
unfolding rungs sides
left_all d i p path h =
    let none : d - i ≡ 0 = omega arith in
    ap (λ m. from_node m p (drop (digest_len * i) path)) none

module _ (R : Rule) (f : List ℕ → List ℕ) where
  pub climb_more : (r : Rung) (rs : List Rung) (x : List ℕ) → climb R f (r ∷ rs) x ≡ climb R f rs (above R f r x)
  unfolding climb
  climb_more r rs x = refl

  pub climb_none : (x : List ℕ) → climb R f [] x ≡ x
  unfolding climb
  climb_none x = refl

  pub inputs_more : (r : Rung) (rs : List Rung) (x : List ℕ) → inputs R f (r ∷ rs) x ≡ input R r x ∷ inputs R f rs (above R f r x)
  unfolding inputs
  inputs_more r rs x = refl

  pub inputs_none : (x : List ℕ) → inputs R f [] x ≡ []
  unfolding inputs
  inputs_none x = refl

  -- one level of a climb
  pub climb_on : (d i p : ℕ) (path x y : List ℕ) → i < d → y ≡ above R f (beside (side p) (slot i path)) x → climb R f (left d (i + 1) (p / 2) path) y ≡ climb R f (left d i p path) x
  climb_on d i p path x y h e =
      ap (climb R f (left d (i + 1) (p / 2) path)) e
      ∙ sym (climb_more (beside (side p) (slot i path)) (left d (i + 1) (p / 2) path) x)
      ∙ sym (ap (λ rs. climb R f rs x) (left_more d i p path h))

  pub climb_all : (d i p : ℕ) (path x : List ℕ) → d ≤ i → climb R f (left d i p path) x ≡ x
  climb_all d i p path x h = ap (λ rs. climb R f rs x) (left_all d i p path h) ∙ climb_none x

pub slot_length : (i : ℕ) (xs : List ℕ) → digest_len * i + digest_len ≤ length xs → length (slot i xs) ≡ digest_len
slot_length i xs h = length-take-le digest_len (drop (digest_len * i) xs) (simp length-drop (omega arith))

-- a digest as code cuts it out, from place a to place e
pub slot_part : (i a e : ℕ) (xs : List ℕ) → a ≡ digest_len * i → e ≡ a + digest_len → take (e - a) (drop a xs) ≡ slot i xs
slot_part i a e xs ea ee =
    let n : e - a ≡ digest_len = omega arith in
    ap (λ m. take m (drop a xs)) n ∙ ap (λ m. take digest_len (drop m xs)) ea

pub slot_cut : (i : ℕ) (xs : List ℕ) → take (digest_len * i + digest_len - digest_len * i) (drop (digest_len * i) xs) ≡ slot i xs
slot_cut i xs = slot_part i (digest_len * i) (digest_len * i + digest_len) xs refl refl

-- the first k digests of a front that has them
pub slots_take : (k n : ℕ) (xs : List ℕ) → digest_len * k ≤ n → slots k (take n xs) ≡ slots k xs
unfolding slots
slots_take zero n xs h = refl
slots_take (suc k) n xs h =
    let m = n - digest_len in
    let e : n ≡ digest_len + m = omega arith in
    ap (λ z. z ∷ slots k (drop digest_len (take n xs))) (take-take digest_len n xs (omega arith))
    ∙ ap (λ z. take digest_len xs ∷ slots k (drop digest_len (take z xs))) e
    ∙ ap (λ z. take digest_len xs ∷ slots k z) (drop-take digest_len m xs)
    ∙ ap (λ z. take digest_len xs ∷ z) (slots_take k m (drop digest_len xs) (omega arith))

-- the search for a collision, level by level
module _ (R : Rule) (f : List ℕ → List ℕ) where
  pub first_none : (x x' : List ℕ) → first_collision f (inputs R f [] x) (inputs R f [] x') ≡ None
  unfolding first_collision inputs
  first_none x x' = refl

  pub first_here : (r r' : Rung) (rs rs' : List Rung) (x x' : List ℕ) → collides f (input R r x) (input R r' x') ≡ true → first_collision f (inputs R f (r ∷ rs) x) (inputs R f (r' ∷ rs') x') ≡ Some (record { one = input R r x; other = input R r' x' })
  unfolding first_collision inputs
  first_here r r' rs rs' x x' e = cond-true (collides f (input R r x) (input R r' x')) _ _ e

  pub first_on : (r r' : Rung) (rs rs' : List Rung) (x x' : List ℕ) → collides f (input R r x) (input R r' x') ≡ false → first_collision f (inputs R f (r ∷ rs) x) (inputs R f (r' ∷ rs') x') ≡ first_collision f (inputs R f rs (above R f r x)) (inputs R f rs' (above R f r' x'))
  unfolding first_collision inputs
  first_on r r' rs rs' x x' e = cond-false (collides f (input R r x) (input R r' x')) _ _ e

-- a search through two lists in two parts
module _ (f : List ℕ → List ℕ) where
  pub first_front : (xs ys us vs : List (List ℕ)) (t : Two) → first_collision f xs ys ≡ Some t → first_collision f (xs ++ us) (ys ++ vs) ≡ Some t
  unfolding first_collision
  first_front [] ys us vs t e = absurd (none_some t e)
  first_front (x ∷ xs) [] us vs t e = absurd (none_some t e)
  first_front (x ∷ xs) (y ∷ ys) us vs t e =
      elim (cases_Bool (collides f x y)) [
        | inl hit ↦ cond-true (collides f x y) _ _ hit ∙ sym (cond-true (collides f x y) _ _ hit) ∙ e
        | inr miss ↦
            cond-false (collides f x y) _ _ miss
            ∙ first_front xs ys us vs t (sym (cond-false (collides f x y) _ _ miss) ∙ e)
      ]

  pub first_append : (xs ys us vs : List (List ℕ)) → length xs ≡ length ys → first_collision f xs ys ≡ None → first_collision f (xs ++ us) (ys ++ vs) ≡ first_collision f us vs
  unfolding first_collision
  first_append [] [] us vs h e = refl
  first_append [] (y ∷ ys) us vs h e = absurd (omega arith)
  first_append (x ∷ xs) [] us vs h e = absurd (omega arith)
  first_append (x ∷ xs) (y ∷ ys) us vs h e =
      elim (cases_Bool (collides f x y)) [
        | inl hit ↦ absurd (none_some _ (sym e ∙ cond-true (collides f x y) _ _ hit))
        | inr miss ↦
            cond-false (collides f x y) _ _ miss
            ∙ first_append xs ys us vs (omega arith) (sym (cond-false (collides f x y) _ _ miss) ∙ e)
      ]

  -- the first of the whole is the first of the first part, or else that of the second
  first_or : (xs ys us vs : List (List ℕ)) → length xs ≡ length ys → first_collision f (xs ++ us) (ys ++ vs) ≡ or_else (first_collision f xs ys) (first_collision f us vs)
  first_or xs ys us vs h = by (first_collision f xs ys) refl
    where
      by : (o : Option Two) → first_collision f xs ys ≡ o → first_collision f (xs ++ us) (ys ++ vs) ≡ or_else (first_collision f xs ys) (first_collision f us vs)
      by None e = first_append xs ys us vs h e ∙ ap (λ o. or_else o (first_collision f us vs)) (sym e)
      by (Some t) e = first_front xs ys us vs t e ∙ ap (λ o. or_else o (first_collision f us vs)) (sym e)

  pub first_in_parts : FirstInParts f
  first_in_parts rs rs' qs qs' x y h =
      ap (λ z. first_collision f z (inputs plain_rule f (rs' ++ qs') y)) (inputs_append plain_rule f rs qs x)
      ∙ ap (λ z. first_collision f (inputs plain_rule f rs x ++ inputs plain_rule f qs (climb plain_rule f rs x)) z) (inputs_append plain_rule f rs' qs' y)
      ∙ first_or _ _ _ _ (inputs_length plain_rule f rs x ∙ h ∙ sym (inputs_length plain_rule f rs' y))
