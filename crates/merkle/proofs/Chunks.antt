-- A row of digests as the chunks that code goes over.
use Rattle.std.proofs.Common.{◌≡◌, ℕ, zero, suc, ◌+◌, ◌/◌, ◌<◌, ◌≤◌, List, [], ◌∷◌, length, get_or, take, drop, sym, refl, ap, ◌∙◌, arith}
use Rattle.std.specs.Simd.{first_chunks}
use Rattle.hash.specs.Digests.{digest_len}
use Rattle.merkle.specs.Tree.{side, sides}
use Rattle.merkle.specs.Climb.{Node, Rule, Rung, beside, rungs, past, slot, slots, levels, climb, above, from_node}
use Rattle.std.proofs.lemmas.List.{drop_all}
use Rattle.merkle.proofs.Climbing.{slots_length}
use Rattle.merkle.proofs.Steps.{climb_more, climb_none}
use Rattle.merkle.proofs.Layouts.{slot_drop}

pub chunks_count : (k : ℕ) (xs : List ℕ) → length (first_chunks digest_len k xs) ≡ k
chunks_count zero xs = refl
chunks_count (suc k) xs = ap (λ n. suc n) (chunks_count k (drop digest_len xs))

pub chunk_at : (k i : ℕ) (xs d : List ℕ) → i < k → get_or (first_chunks digest_len k xs) i d ≡ slot i xs
chunk_at zero i xs d h = absurd (omega arith)
chunk_at (suc k) zero xs d h = refl
chunk_at (suc k) (suc i) xs d h =
    chunk_at k i (drop digest_len xs) d (omega arith) ∙ slot_drop i 1 xs ∙ ap (λ j. slot j xs) (omega arith)

pub chunks_slots : (k : ℕ) (xs : List ℕ) → first_chunks digest_len k xs ≡ slots k xs
unfolding slots
chunks_slots zero xs = refl
chunks_slots (suc k) xs = ap (λ ys. take digest_len xs ∷ ys) (chunks_slots k (drop digest_len xs))

-- ---- a climb past siblings in a list

-- what is left of it after i of them, at place p
abbrev pub past_from : ℕ → ℕ → List Node → List Rung
past_from i p ys = past p (drop i ys)

pub past_more : (i p : ℕ) (ys : List Node) (y : Node) → i < length ys → y ≡ get_or ys i [] → past_from i p ys ≡ beside (side p) y ∷ past_from (i + 1) (p / 2) ys
unfolding rungs sides
past_more i p [] y h e = absurd (omega arith)
past_more zero p (x ∷ ys) y h e = ap (λ z. beside (side p) z ∷ past (p / 2) ys) (sym e)
past_more (suc i) p (x ∷ ys) y h e =
    past_more i p ys y (omega arith) e ∙ ap (λ n. beside (side p) y ∷ past (p / 2) (drop n (x ∷ ys))) (let n : suc (i + 1) ≡ suc i + 1 = omega arith in n)

pub past_all : (i p : ℕ) (ys : List Node) → length ys ≤ i → past_from i p ys ≡ []
unfolding rungs sides
past_all i p ys h = ap (past p) (drop_all i ys h)

-- the siblings of a path
pub past_slots : (k p : ℕ) (path : List ℕ) (ys : List Node) → ys ≡ slots k path → past p ys ≡ from_node k p path
past_slots k p path ys e =
    ap (λ zs. past p zs) e ∙ ap (λ n. rungs (sides n p) (slots k path)) (slots_length k path)

pub past_path : (path : List ℕ) (p : ℕ) (ys : List Node) → ys ≡ first_chunks digest_len (levels path) path → past p ys ≡ from_node (levels path) p path
past_path path p ys e = past_slots (levels path) p path ys (e ∙ chunks_slots (levels path) path)

-- one level of it, and its end
module _ (R : Rule) (f : List ℕ → List ℕ) where
  pub past_on : (i p : ℕ) (ys : List Node) (x y z : Node) → i < length ys → y ≡ get_or ys i [] → z ≡ above R f (beside (side p) y) x
      → climb R f (past_from (i + 1) (p / 2) ys) z ≡ climb R f (past_from i p ys) x
  past_on i p ys x y z h e up =
      ap (climb R f (past_from (i + 1) (p / 2) ys)) up
      ∙ sym (climb_more R f (beside (side p) y) (past_from (i + 1) (p / 2) ys) x)
      ∙ ap (λ rs. climb R f rs x) (sym (past_more i p ys y h e))

  pub past_end : (i p : ℕ) (ys : List Node) (x : Node) → length ys ≤ i → climb R f (past_from i p ys) x ≡ x
  past_end i p ys x h = ap (λ rs. climb R f rs x) (past_all i p ys h) ∙ climb_none R f x
