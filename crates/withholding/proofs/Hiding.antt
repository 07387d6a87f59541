-- Two ways to say which cells are hidden.
use Rattle.std.proofs.Common.{suc, add-one, length, ◌+◌, eqb, ◌∷◌, Option, Some, None, sym, ◌∙◌, ◌≡◌, ℕ, Bool, false, List, get_or, replicate, ap, inl, inr, arith}
use mathlib.Core.Path.{fun_ext}
use denote.Ref.{Bor}
use Rattle.std.specs.Option.{MatchOption, option_eq}
use Rattle.std.proofs.lemmas.List.{get_or-replicate, get_or_past, length-replicate}
use Rattle.std.proofs.lemmas.Bool.{cases_lt}
use Rattle.store.specs.Meaning.{Meaning}
use Rattle.withholding.specs.Masked.{without, masked}

-- tests that agree hide the same
pub same_hidden : (m : Meaning) (p q : ℕ → Bool) → ((i : ℕ) → p i ≡ q i) → without m p ≡ without m q
same_hidden m p q h = ap (without m) (fun_ext h)

-- none is hidden
pub none_hidden : (m : Meaning) (hidden : List Bool) → ((i : ℕ) → get_or hidden i false ≡ false) → masked m hidden ≡ m
none_hidden m hidden h = same_hidden m (λ i. get_or hidden i false) (λ i. false) h

pub none_in : (n i : ℕ) → get_or (replicate n false) i false ≡ false
none_in n i =
    elim (cases_lt i n) [
      | inl h ↦ get_or-replicate n i false false h
      | inr h ↦ get_or_past (replicate n false) i false (omega (arith, length-replicate n false))
    ]

pub none_masked : (m : Meaning) (n : ℕ) → masked m (replicate n false) ≡ m
none_masked m n = none_hidden m (replicate n false) (none_in n)

-- the next mark that an iterator gives, and those that it has left; there is none past the last, which counts as 0
module _ {I : Type 0} (left : I → List ℕ) (E : Bor ℕ → Bor ℕ → Bool) (one : Bor ℕ) (is_one : (x : Bor ℕ) → E x one ≡ eqb x.now 1) where
  pub next_mark : (r : Option (Bor ℕ)) (s t : I) → MatchOption r ((length (left s) ≡ 0) × (t ≡ s)) (λ x. left s ≡ x.now ∷ left t)
      → (option_eq E r (Some one) ≡ eqb (get_or (left s) 0 0) 1) × ((j : ℕ) → get_or (left t) j 0 ≡ get_or (left s) (j + 1) 0)
  next_mark None s t h = (
    sym (ap (λ x. eqb x 1) (get_or_past (left s) 0 0 (omega arith))),
    (λ j. ap (λ i. get_or (left i) j 0) h.1 ∙ get_or_past (left s) j 0 (omega arith) ∙ sym (get_or_past (left s) (j + 1) 0 (omega arith))),
  )
  next_mark (Some x) s t h = (
    is_one x ∙ sym (ap (λ xs. eqb (get_or xs 0 0) 1) h),
    (λ j. sym (ap (λ xs. get_or xs (suc j) 0) h) ∙ ap (λ k. get_or (left s) k 0) (sym (add-one j))),
  )
