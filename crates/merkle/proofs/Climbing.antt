-- The laws of climbs.
use Rattle.std.proofs.Common.{◌≡◌, ℕ, zero, suc, ◌+◌, ◌-◌, ◌*◌, ◌/◌, ◌%◌, ◌^◌, ◌<◌, List, [], ◌∷◌, ◌++◌, length, drop, sym, refl, ap, ◌∙◌, inl, inr, pow-suc, add-one, arith}
use Rattle.std.proofs.lemmas.Bool.{cases_eq, eq-eqb, ne_eqb}
use Rattle.hash.specs.Digests.{digest_len}
use Rattle.merkle.specs.Tree.{node, root, path, siblings, Side, right, left, side, sides, flip, paired}
use Rattle.merkle.specs.Climb.{Node, Rule, Rung, join_of, rungs, input, above, climb, inputs, slots, from_leaf}
use Rattle.merkle.specs.Laws.{Lengths, Parts}

pub node_start : {N : Type 0} (join : N → N → N) (leaf : ℕ → N) (j : ℕ) → node join leaf 0 j ≡ leaf j
unfolding node
node_start join leaf j = refl

-- one level up
pub node_more : {N : Type 0} (join : N → N → N) (leaf : ℕ → N) (h j : ℕ) → node join leaf (h + 1) j ≡ join (node join leaf h (2 * j)) (node join leaf h (2 * j + 1))
unfolding node
node_more join leaf h j = rw add-one

-- the two orders of a pair
pub flip_even : (p : ℕ) → p % 2 ≡ 0 → flip p ≡ p + 1
flip_even p e = rw (eq-eqb (p % 2) 0 e)

pub flip_odd : (p : ℕ) → (p % 2 ≡ 0 → ⊥) → flip p ≡ p - 1
flip_odd p n = rw (ne_eqb (p % 2) 0 n)

pub side_even : (p : ℕ) → p % 2 ≡ 0 → side p ≡ right
side_even p e = rw (eq-eqb (p % 2) 0 e)

pub side_odd : (p : ℕ) → (p % 2 ≡ 0 → ⊥) → side p ≡ left
side_odd p n = rw (ne_eqb (p % 2) 0 n)

module _ {N : Type 0} (join : N → N → N) (leaf : ℕ → N) where
  -- a node and its sibling give the node above
  pub own_step : (h p : ℕ) → paired join (side p) (node join leaf h p) (node join leaf h (flip p)) ≡ node join leaf (h + 1) (p / 2)
  own_step h p =
      elim (cases_eq (p % 2) 0) [
        | inl e ↦
            ap (λ s. paired join s (node join leaf h p) (node join leaf h (flip p))) (side_even p e)
            ∙ ap (λ q. join (node join leaf h p) (node join leaf h q)) (flip_even p e)
            ∙ ap (λ q. join (node join leaf h q) (node join leaf h (p + 1))) (omega arith)
            ∙ ap (λ q. join (node join leaf h (2 * (p / 2))) (node join leaf h q)) (omega arith)
            ∙ sym (node_more join leaf h (p / 2))
        | inr n ↦
            ap (λ s. paired join s (node join leaf h p) (node join leaf h (flip p))) (side_odd p n)
            ∙ ap (λ q. join (node join leaf h q) (node join leaf h p)) (flip_odd p n)
            ∙ ap (λ q. join (node join leaf h q) (node join leaf h p)) (omega arith)
            ∙ ap (λ q. join (node join leaf h (2 * (p / 2))) (node join leaf h q)) (omega arith)
            ∙ sym (node_more join leaf h (p / 2))
      ]

  pub siblings_length : (h d p : ℕ) → length (siblings join leaf h d p) ≡ d
  unfolding siblings
  siblings_length h zero p = refl
  siblings_length h (suc d) p = ap suc (siblings_length (h + 1) d (p / 2))

module _ (R : Rule) (f : List ℕ → List ℕ) where
  own : (leaf : ℕ → Node) (h d p : ℕ) → p < 2 ^ d → climb R f (rungs (sides d p) (siblings (join_of R f) leaf h d p)) (node (join_of R f) leaf h p) ≡ node (join_of R f) leaf (h + d) 0
  unfolding climb rungs sides siblings
  own leaf h zero p l =
      ap (node (join_of R f) leaf h) (omega arith) ∙ ap (λ k. node (join_of R f) leaf k 0) (omega arith)
  own leaf h (suc d) p l =
      let n = 2 ^ d in
      let e : 2 ^ suc d ≡ n * 2 = pow-suc 2 d in
      ap (climb R f (rungs (sides d (p / 2)) (siblings (join_of R f) leaf (h + 1) d (p / 2)))) (own_step (join_of R f) leaf h p)
      ∙ own leaf (h + 1) d (p / 2) (omega arith)
      ∙ ap (λ k. node (join_of R f) leaf k 0) (omega arith)

  pub climbs_own : (leaf : ℕ → Node) (d p : ℕ) → p < 2 ^ d → climb R f (rungs (sides d p) (path (join_of R f) d leaf p)) (leaf p) ≡ root (join_of R f) d leaf
  climbs_own leaf d p l =
      ap (climb R f (rungs (sides d p) (path (join_of R f) d leaf p))) (sym (node_start (join_of R f) leaf p))
      ∙ own leaf 0 d p l
      ∙ ap (λ k. node (join_of R f) leaf k 0) (omega arith)

  pub climb_append : (rs qs : List Rung) (x : List ℕ) → climb R f (rs ++ qs) x ≡ climb R f qs (climb R f rs x)
  unfolding climb
  climb_append [] qs x = refl
  climb_append (r ∷ rs) qs x = climb_append rs qs (above R f r x)

  pub inputs_append : (rs qs : List Rung) (x : List ℕ) → inputs R f (rs ++ qs) x ≡ inputs R f rs x ++ inputs R f qs (climb R f rs x)
  unfolding climb inputs
  inputs_append [] qs x = refl
  inputs_append (r ∷ rs) qs x = ap (λ t. input R r x ∷ t) (inputs_append rs qs (above R f r x))

  pub inputs_length : (rs : List Rung) (x : List ℕ) → length (inputs R f rs x) ≡ length rs
  unfolding inputs
  inputs_length [] x = refl
  inputs_length (r ∷ rs) x = ap suc (inputs_length rs (above R f r x))

pub sides_length : (d p : ℕ) → length (sides d p) ≡ d
unfolding sides
sides_length zero p = refl
sides_length (suc d) p = ap suc (sides_length d (p / 2))

pub slots_length : (k : ℕ) (xs : List ℕ) → length (slots k xs) ≡ k
unfolding slots
slots_length zero xs = refl
slots_length (suc k) xs = ap suc (slots_length k (drop digest_len xs))

pub rungs_length : (ss : List Side) (ys : List Node) → length ss ≡ length ys → length (rungs ss ys) ≡ length ys
unfolding rungs
rungs_length [] [] h = refl
rungs_length [] (y ∷ ys) h = absurd (omega arith)
rungs_length (s ∷ ss) [] h = absurd (omega arith)
rungs_length (s ∷ ss) (y ∷ ys) h = ap suc (rungs_length ss ys (omega arith))

pub from_leaf_length : (d p : ℕ) (xs : List ℕ) → length (from_leaf d p xs) ≡ suc d
from_leaf_length d p xs =
    ap suc (rungs_length (sides d p) (slots d xs) (sides_length d p ∙ sym (slots_length d xs)) ∙ slots_length d xs)

pub lengths : (f : List ℕ → List ℕ) → Lengths f
lengths f = record {
  of_sides = sides_length;
  of_path = λ R leaf d p. siblings_length (join_of R f) leaf 0 d p;
  of_slots = slots_length;
  of_rungs = rungs_length;
  of_inputs = λ R rs x. inputs_length R f rs x;
}

pub parts : (f : List ℕ → List ℕ) → Parts f
parts f = record { of_climb = λ R. climb_append R f; of_inputs = λ R. inputs_append R f }
