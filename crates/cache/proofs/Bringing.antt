-- What a question that went below brings.
use Rattle.std.proofs.Common.{◌≡◌, ℕ, ◌-◌, ◌≤◌, Bool, true, false, cond, List, ◌++◌, length, take, drop, Some, None, Ok, Option, sym, refl, ap, ◌∙◌, ap₂}
use native.Mathlib.Nat.{sub-zero}
use Rattle.std.proofs.lemmas.List.{length-take-le, take_at}
use Rattle.std.specs.Bool.{then_some}
use Rattle.header.specs.declared.cell.Axis.{Axis}
use Rattle.header.specs.declared.cell.Cell.{Cell}
use Rattle.header.specs.Fields.{Fields}
use Rattle.header.specs.Sizes.{path_len}
use Rattle.evidence.specs.Evidence.{Evidence}
use Rattle.store.specs.Meaning.{Meaning, block}
use Rattle.store.specs.Showing.{asked}
use Rattle.store.specs.Taking.{taken, in_hand, Takes}
use Rattle.store.proofs.Asking.{admitted}
use Rattle.store.proofs.Sweeps.{in_hand_lem}
use Rattle.cache.specs.declared.kept.Kept.{Kept}
use Rattle.cache.specs.Keeping.{header_fits, answer_at, place_in, Brings}

module _ (f : List ℕ → List ℕ) (kind : ℕ) (h : Fields) (m m' : Meaning) (order : Type 0) (cell : Cell) (n p : ℕ) (share path share' path' : List ℕ)
    (free : asked m.k m.s cell.row cell.col n p ≡ Ok tt) (ls : length share ≡ n) (lp : length path ≡ p) where
  free_here : asked m.k m.s cell.row cell.col (length share) (length path) ≡ Ok tt
  free_here = ap₂ (λ x y. asked m.k m.s cell.row cell.col x y) ls lp ∙ free

  -- an answer made of what was taken is kept where the header fits
  pub brings : (v : Kept) (axis : Option Axis) → axis ≡ Some v.axis → Takes f h m m' order cell.row cell.col share path axis share' path' → v.cell ≡ cell
      → take n v.share ≡ share' → take p v.path ≡ path' → (fits : Bool) → fits ≡ header_fits kind h m → (given : Option Kept) → given ≡ then_some fits v → Brings f kind h m m' order cell.row cell.col given
  brings v axis by t at s-is p-is fits fit given is =
      let a = admitted m.k m.s cell.row cell.col n p free in
      let here = in_hand_lem f h m m' order cell.row cell.col share path share' path' free_here axis t ∙ ap (λ x. in_hand x share' path') by in
      let s-is : take m.s v.share ≡ share' = ap (λ x. take x v.share) (sym a.share) ∙ s-is in
      let p-is : take (path_len (block m.k m.s)) v.path ≡ path' = ap (λ x. take x v.path) (sym a.path) ∙ p-is in
      record {
        is =
            ap (place_in m.k m.s) is
            ∙ fitted fits v
            (ap (λ (x : Cell). Some (record { row = x.row; col = x.col; evidence = record { axis = v.axis; share = take m.s v.share; path = take (path_len (block m.k m.s)) v.path } })) at
            ∙ ap₂ (λ x y. Some (record { row = cell.row; col = cell.col; evidence = record { axis = v.axis; share = x; path = y } })) s-is p-is)
            ∙ ap₂ (λ b e. answer_at cell.row cell.col (cond b e None)) fit (sym here);
        same = t.same;
        kept = t.kept;
      }
    where
      fitted : (b : Bool) (w : Kept) → {e : _} → place_in m.k m.s (Some w) ≡ answer_at cell.row cell.col (Some e) → place_in m.k m.s (then_some b w) ≡ answer_at cell.row cell.col (cond b (Some e) None)
      fitted true w e = e
      fitted false w e = refl

  -- nothing was taken
  pub brings_none : Takes f h m m' order cell.row cell.col share path None share' path' → Brings f kind h m m' order cell.row cell.col None
  brings_none t =
      let here = in_hand_lem f h m m' order cell.row cell.col share path share' path' free_here None t in
      record { is = sym (ap (answer_at cell.row cell.col) (same_none (header_fits kind h m) (taken f h m cell.row cell.col) here)); same = t.same; kept = t.kept }
    where
      same_none : (b : Bool) (v : Option Evidence) → v ≡ None → cond b v None ≡ None
      same_none true v e = e
      same_none false v e = refl

-- a part from the front of a buffer, as `&mut xs[0..n]` lends it and leaves it
pub part_long : (n : ℕ) (xs : List ℕ) → n ≤ length xs → length (take (n - 0) (drop 0 xs)) ≡ n
part_long n xs h = ap (λ k. length (take k (drop 0 xs))) (sub-zero n) ∙ length-take-le n xs h

pub part_kept : (n : ℕ) (part rest : List ℕ) → length part ≡ n → take n (part ++ rest) ≡ part
part_kept n part rest h = take_at part rest n h
