-- What the kept answers give.
use Rattle.std.proofs.Common.{◌≡◌, ℕ, zero, suc, ◌+◌, ◌-◌, Bool, true, false, cond, ◌&&◌, eqb, List, [], ◌∷◌, ◌++◌, length, get_or, take, drop, set, Some, None, Option, sym, refl, ap, ◌∙◌, subst, inl, inr, arith, length-drop, ◌<◌}
use Rattle.std.proofs.lemmas.List.{at_drop_more, get_or_append_left, get_or-append_right, get_or-drop, set-append_right}
use Rattle.std.proofs.lemmas.Bool.{eqb-true, and_parts, cases_Bool, cases_lt, cond-true, cond-false}
use Rattle.std.proofs.lemmas.Iterator.{YieldsList}
use Rattle.std.proofs.lemmas.Iterator.Consumers.{YieldsList-from_shown}
use Rattle.std.specs.Bool.{MatchBool}
use Rattle.std.specs.List.{find, flat_map}
use Rattle.std.specs.Option.{option_to_list}
use Rattle.std.specs.Iterator.Adapters.{option_iter_item, option_iter_done, option_iter_steps}
use denote.Ref.{Bor}
use Rattle.evidence.specs.Evidence.{Evidence}
use Rattle.store.specs.Meaning.{Meaning}
use Rattle.cache.specs.declared.kept.Kept.{Kept}
use Rattle.cache.specs.Keeping.{Answer, Keeps, evidence_of, answer_in, place_in, places, pushed, kept_for}

-- ---- going through the places

module _ (r c k s : ℕ) (ks : List (Option Kept)) (i : ℕ) where
  pub kept_none : i < length ks → get_or ks i None ≡ None → kept_for r c (places k s (drop (i + 1) ks)) ≡ kept_for r c (places k s (drop i ks))
  unfolding kept_for
  kept_none h e = sym (at_drop_more (λ xs. kept_for r c (places k s xs)) ks i None h ∙ ap (λ o. kept_for r c (places k s (o ∷ drop (i + 1) ks))) e)

  kept_some : (v : Kept) → i < length ks → get_or ks i None ≡ Some v
      → kept_for r c (places k s (drop i ks)) ≡ cond (eqb v.cell.row r && eqb v.cell.col c) (Some (answer_in k s v).evidence) (kept_for r c (places k s (drop (i + 1) ks)))
  unfolding kept_for
  kept_some v h e = at_drop_more (λ xs. kept_for r c (places k s xs)) ks i None h ∙ ap (λ o. kept_for r c (places k s (o ∷ drop (i + 1) ks))) e

  pub kept_hit : (v : Kept) → i < length ks → get_or ks i None ≡ Some v → (eqb v.cell.row r && eqb v.cell.col c) ≡ true → kept_for r c (places k s (drop i ks)) ≡ Some (answer_in k s v).evidence
  kept_hit v h e t = kept_some v h e ∙ cond-true _ (Some (answer_in k s v).evidence) _ t

  pub kept_other : (v : Kept) → i < length ks → get_or ks i None ≡ Some v → (eqb v.cell.row r && eqb v.cell.col c) ≡ false
      → kept_for r c (places k s (drop (i + 1) ks)) ≡ kept_for r c (places k s (drop i ks))
  kept_other v h e t = sym (kept_some v h e ∙ cond-false _ (Some (answer_in k s v).evidence) _ t)

-- an iterator over a place gives the answer there, if there is one
nothing_left : {A : Type 0} (d : Bool) (o : Option A) → MatchBool d (◌≡◌ {A = Option (Bor A)} None None) (None ≡ o) → length (cond d [] (option_to_list o)) ≡ 0
nothing_left true o h = refl
nothing_left false o h = sym (ap (λ k. length (option_to_list k)) h)

one_left : {A : Type 0} (d : Bool) (o : Option A) (x : Bor A) → MatchBool d (Some x ≡ None) (Some x.now ≡ o) → cond d [] (option_to_list o) ≡ x.now ∷ []
one_left true o x h = let z : ◌≡◌ {A = ℕ} 0 1 = cc in absurd (omega arith)
one_left false o x h = sym (ap option_to_list h)

pub place_gives : {A : Type 0} (i : _) (o : Option A) → option_iter_item i ≡ o → option_iter_done i ≡ false → YieldsList option_iter_steps (λ y. y.now) i (option_to_list o)
place_gives {A} i o e d =
    subst (λ b. YieldsList option_iter_steps (λ y. y.now) i (cond b [] (option_to_list o))) d
    (subst (λ k. YieldsList option_iter_steps (λ y. y.now) i (cond (option_iter_done i) [] (option_to_list k))) e
    (YieldsList-from_shown option_iter_steps (λ y. y.now) (λ u. cond (option_iter_done u) [] (option_to_list (option_iter_item u)))
    (λ u t h. nothing_left (option_iter_done u) (option_iter_item u) h.1)
    (λ u x t h. one_left (option_iter_done u) (option_iter_item u) x h.1 ∙ ap (λ b. x.now ∷ cond b [] (option_to_list (option_iter_item t))) (sym h.0)) i))

-- the first answer for a cell is the one that is kept for it
pub first_kept : (r c k s : ℕ) (ks : List (Option Kept)) → evidence_of (place_in k s (find (λ (v : Kept). eqb v.cell.row r && eqb v.cell.col c) (flat_map option_to_list ks))) ≡ kept_for r c (places k s ks)
unfolding kept_for
first_kept r c k s [] = refl
first_kept r c k s (None ∷ ks) = first_kept r c k s ks
first_kept r c k s (Some v ∷ ks) =
    elim (cases_Bool (eqb v.cell.row r && eqb v.cell.col c)) [
      | inl t ↦
          ap (λ b. evidence_of (place_in k s (cond b (Some v) (find (λ (v : Kept). eqb v.cell.row r && eqb v.cell.col c) (flat_map option_to_list ks))))) t
          ∙ sym (cond-true _ (Some (answer_in k s v).evidence) (kept_for r c (places k s ks)) t)
      | inr f ↦
          ap (λ b. evidence_of (place_in k s (cond b (Some v) (find (λ (v : Kept). eqb v.cell.row r && eqb v.cell.col c) (flat_map option_to_list ks))))) f
          ∙ first_kept r c k s ks
          ∙ sym (cond-false _ (Some (answer_in k s v).evidence) (kept_for r c (places k s ks)) f)
    ]

-- ---- what is found

-- it stands in some place, for that cell
pub record Found (r c : ℕ) (ks : List (Option Answer)) (e : Evidence) : Type 0 where
  pub place : ℕ
  pub answer : Answer
  pub stands : get_or ks place None ≡ Some answer
  pub row : answer.row ≡ r
  pub col : answer.col ≡ c
  pub holds : answer.evidence ≡ e

pub found : (r c : ℕ) (ks : List (Option Answer)) (e : Evidence) → kept_for r c ks ≡ Some e → Found r c ks e
unfolding kept_for
found r c [] e h = let z : ◌≡◌ {A = ℕ} 0 1 = cc in absurd (omega arith)
found r c (None ∷ ks) e h =
    let x = found r c ks e h in
    record { place = suc x.place; answer = x.answer; stands = x.stands; row = x.row; col = x.col; holds = x.holds }
found r c (Some a ∷ ks) e h =
    elim (cases_Bool (eqb a.row r && eqb a.col c)) [
      | inl t ↦
          let same : Some a.evidence ≡ Some e = sym (cond-true _ (Some a.evidence) (kept_for r c ks) t) ∙ h in
          let b = and_parts (eqb a.row r) (eqb a.col c) t in
          record { place = 0; answer = a; stands = refl; row = eqb-true a.row r b.0; col = eqb-true a.col c b.1; holds = cc }
      | inr f ↦
          let x = found r c ks e (sym (cond-false _ (Some a.evidence) (kept_for r c ks) f) ∙ h) in
          record { place = suc x.place; answer = x.answer; stands = x.stands; row = x.row; col = x.col; holds = x.holds }
    ]

-- so it is what the cache means there
pub kept_held : (m : Meaning) (r c : ℕ) (ks : List (Option Answer)) (e : Evidence) → kept_for r c ks ≡ Some e → Keeps m ks → m.at r c ≡ Some e
kept_held m r c ks e h keeps =
    let x = found r c ks e h in
    ap (λ v. m.at v c) (sym x.row) ∙ ap (m.at x.answer.row) (sym x.col) ∙ keeps x.place x.answer x.stands ∙ ap Some x.holds

-- ---- one more is kept

last_at : (a b : Answer) (j : ℕ) → get_or (Some a ∷ []) j None ≡ Some b → a ≡ b
last_at a b zero h = cc
last_at a b (suc j) h = let z : ◌≡◌ {A = ℕ} 0 1 = cc in absurd (omega arith)

pub keeps_pushed : (m : Meaning) (ks : List (Option Answer)) (a : Answer) → Keeps m ks → m.at a.row a.col ≡ Some a.evidence → Keeps m (pushed ks (Some a))
keeps_pushed m ks a keeps held i b h =
    elim (cases_lt i (length (drop 1 ks))) [
      | inl l ↦ keeps (1 + i) b (sym (get_or_append_left (drop 1 ks) (Some a ∷ []) None i l ∙ get_or-drop 1 ks i None) ∙ h)
      | inr l ↦
          let same : a ≡ b = last_at a b (i - length (drop 1 ks)) (sym (get_or-append_right (drop 1 ks) (Some a ∷ []) (length (drop 1 ks)) i None refl l) ∙ h) in
          subst (λ (x : Answer). m.at x.row x.col ≡ Some x.evidence) same held
    ]

-- the places after
map_append : (k s : ℕ) (xs ys : List (Option Kept)) → places k s (xs ++ ys) ≡ places k s xs ++ places k s ys
map_append k s [] ys = refl
map_append k s (x ∷ xs) ys = ap (λ zs. place_in k s x ∷ zs) (map_append k s xs ys)

drop_one : (k s : ℕ) (xs : List (Option Kept)) → places k s (drop 1 xs) ≡ drop 1 (places k s xs)
drop_one k s [] = refl
drop_one k s (x ∷ xs) = refl

pub places_pushed : (k s : ℕ) (ks : List (Option Kept)) (v : Kept) → places k s (pushed ks (Some v)) ≡ pushed (places k s ks) (Some (answer_in k s v))
places_pushed k s ks v = map_append k s (drop 1 ks) (Some v ∷ []) ∙ ap (λ xs. xs ++ (Some (answer_in k s v) ∷ [])) (drop_one k s ks)

-- turned by one place, and then written at the last
first_set : (ks : List (Option Kept)) (v : Option Kept) → length ks ≡ 8 → set (take 1 ks) 0 v ≡ v ∷ []
first_set [] v h = absurd (omega arith)
first_set (x ∷ xs) v h = refl

pub push_set : (ks rs : List (Option Kept)) (v : Option Kept) → length ks ≡ 8 → rs ≡ drop 1 ks ++ take 1 ks → set rs 7 v ≡ pushed ks v
push_set ks rs v h e =
    ap (λ xs. set xs 7 v) e
    ∙ set-append_right (drop 1 ks) (take 1 ks) 7 7 v (simp length-drop (omega arith)) (omega arith)
    ∙ ap (λ xs. drop 1 ks ++ xs) (first_set ks v h)
