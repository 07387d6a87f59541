-- Strictly increasing places below 2k are places of a codeword, no two alike.
use Rattle.std.proofs.Common.{◌≡◌, ℕ, zero, suc, ◌+◌, ◌*◌, ◌<◌, ◌≤◌, true, false, ◌&&◌, ltb, leb, ◌≢◌, ◌⊎◌, Bool, List, [], ◌∷◌, length, Option, Some, None, refl, sym, subst, ap, ◌∙◌, inl, inr, le_of_suc-le-suc, suc-le-suc, zero-lt-suc, not-suc-le-zero, arith}
use native.Mathlib.Decide.{dec_lt}
use Rattle.std.proofs.lemmas.Bool.{and_parts, and_right, leb-true, ltb-true, le-leb, lt-leb, lt-ltb, le-ltb, and_from, false≢true, false_from_ne_true}
use Rattle.std.specs.Cmp.{both_ways}
use Rattle.std.specs.List.{list_all, slice_get, IsAllAdjacentAnswer}
use Rattle.std.proofs.lemmas.List.{get_or_default}
use Rattle.std.proofs.lemmas.List.Sums.{AllPass-from_list_all, list_all-from_AllPass}
use Rattle.codes.specs.Code.{Places}
use Rattle.codes.specs.Words.{at}
use Rattle.erasure.specs.Places.{rising_from, rising_below}

pub rising_within : (low w : ℕ) (ps : List ℕ) → rising_from low w ps ≡ true → (j : ℕ) → j < length ps → (low ≤ at ps j) × (at ps j < w)
unfolding rising_from
rising_within low w [] h j l = absurd (not-suc-le-zero l)
rising_within low w (p ∷ ps) h zero l =
    let a = and_parts (leb low p) (ltb p w && rising_from (p + 1) w ps) h in
    (leb-true low p a.0, ltb-true p w (and_parts (ltb p w) (rising_from (p + 1) w ps) a.1).0)
rising_within low w (p ∷ ps) h (suc j) l =
    let a = and_parts (leb low p) (ltb p w && rising_from (p + 1) w ps) h in
    let r : (p + 1 ≤ at ps j) × (at ps j < w) =
    rising_within (p + 1) w ps (and_parts (ltb p w) (rising_from (p + 1) w ps) a.1).1 j (le_of_suc-le-suc l) in
    let b : low ≤ p = leb-true low p a.0 in
    let t : p + 1 ≤ at ps j = r.0 in
    (omega arith, r.1)

pub rising_up : (low w : ℕ) (ps : List ℕ) → rising_from low w ps ≡ true → (i j : ℕ) → i < j → j < length ps → at ps i < at ps j
unfolding rising_from
rising_up low w [] h i j u l = absurd (not-suc-le-zero l)
rising_up low w (p ∷ ps) h i zero u l = absurd (not-suc-le-zero u)
rising_up low w (p ∷ ps) h zero (suc j) u l =
    let a = and_parts (leb low p) (ltb p w && rising_from (p + 1) w ps) h in
    let r : (p + 1 ≤ at ps j) × (at ps j < w) =
    rising_within (p + 1) w ps (and_parts (ltb p w) (rising_from (p + 1) w ps) a.1).1 j (le_of_suc-le-suc l) in
    let t : p + 1 ≤ at ps j = r.0 in
    omega arith
rising_up low w (p ∷ ps) h (suc i) (suc j) u l =
    let a = and_parts (leb low p) (ltb p w && rising_from (p + 1) w ps) h in
    rising_up (p + 1) w ps (and_parts (ltb p w) (rising_from (p + 1) w ps) a.1).1 i j (le_of_suc-le-suc u) (le_of_suc-le-suc l)

pub rising_places : (k : ℕ) (ps : List ℕ) → length ps ≡ k → rising_below (2 * k) ps ≡ true → Places k (at ps)
rising_places k ps long h =
    record { below = λ j l. (rising_within 0 (2 * k) ps h j (omega arith)).1; apart = apart }
  where
    apart : (i j : ℕ) → i < k → j < k → i ≢ j → at ps i ≢ at ps j
    apart i j hi hj d e =
        elim (dec_lt i j) [
          | yes l ↦ let u : at ps i < at ps j = rising_up 0 (2 * k) ps h i j l (omega arith) in omega arith
          | no n ↦ let u : at ps j < at ps i = rising_up 0 (2 * k) ps h j i (omega arith) (omega arith) in omega arith
        ]

-- ---- looking at one place after the other

pub rising_next : (low w p : ℕ) (ps : List ℕ) → low ≤ p → p < w → rising_from low w (p ∷ ps) ≡ rising_from (p + 1) w ps
unfolding rising_from
rising_next low w p ps a b =
    ap (λ t. t && (ltb p w && rising_from (p + 1) w ps)) (le-leb low p a) ∙ ap (λ t. t && rising_from (p + 1) w ps) (lt-ltb p w b)

pub rising_stops : (low w p : ℕ) (ps : List ℕ) → (p < low) ⊎ (w ≤ p) → rising_from low w (p ∷ ps) ≡ false
unfolding rising_from
rising_stops low w p ps (inl a) = ap (λ t. t && (ltb p w && rising_from (p + 1) w ps)) (lt-leb low p a)
rising_stops low w p ps (inr b) =
    ap (λ t. leb low p && (t && rising_from (p + 1) w ps)) (le-ltb p w b) ∙ and_right (leb low p) false refl

-- ---- neighbours that rise, and all below w

pub rising_from_each : (low w : ℕ) (ps : List ℕ) → (0 < length ps → low ≤ at ps 0) → ((k : ℕ) → suc k < length ps → at ps k < at ps (suc k))
    → ((k : ℕ) → k < length ps → at ps k < w) → rising_from low w ps ≡ true
unfolding rising_from
rising_from_each low w [] first rises below = refl
rising_from_each low w (p ∷ ps) first rises below =
    and_from (leb low p) (ltb p w && rising_from (p + 1) w ps) (le-leb low p (first (zero-lt-suc (length ps))))
    (and_from (ltb p w) (rising_from (p + 1) w ps) (lt-ltb p w (below 0 (zero-lt-suc (length ps))))
    (rising_from_each (p + 1) w ps
    (λ l. let u : p < at ps 0 = rises 0 (suc-le-suc l) in omega arith)
    (λ k l. rises (suc k) (suc-le-suc l))
    (λ k l. below (suc k) (suc-le-suc l))))

-- so of places that rise, those are places below w whose elements are
pub rising_is_below : (w : ℕ) (ps : List ℕ) → ((k : ℕ) → suc k < length ps → at ps k < at ps (suc k)) → list_all (λ p. ltb p w) ps ≡ rising_below w ps
rising_is_below w ps rises =
    both_ways (list_all (λ p. ltb p w) ps) (rising_below w ps)
    (λ h. rising_from_each 0 w ps (λ l. omega arith) rises (λ k l. ltb-true (at ps k) w (AllPass-from_list_all (λ p. ltb p w) ps h k 0 l)))
    (λ h. list_all-from_AllPass (λ p. ltb p w) ps
    (λ k d l. ap (λ x. ltb x w) (get_or_default ps k d 0 l) ∙ lt-ltb (at ps k) w (rising_within 0 w ps h k l).1))

-- ---- the first place, and each with the next

pub rising_none : (w : ℕ) (ps : List ℕ) → ◌≡◌ {A = Option ℕ} None (slice_get ps 0) → true ≡ rising_below w ps
unfolding rising_from
rising_none w [] h = refl
rising_none w (p ∷ ps) h =
    let z : ◌≡◌ {A = ℕ} 0 1 = cc in absurd (omega arith)

-- a first place that is not below w
pub rising_over : (w x : ℕ) (ps : List ℕ) → Some x ≡ slice_get ps 0 → w ≤ x → false ≡ rising_below w ps
unfolding rising_from
rising_over w x [] h l =
    let z : ◌≡◌ {A = ℕ} 0 1 = cc in absurd (omega arith)
rising_over w x (p ∷ ps) h l =
    let same : x ≡ p = cc in
    let over : w ≤ p = omega arith in
    sym (ap (λ t. leb 0 p && (t && rising_from (p + 1) w ps)) (le-ltb p w over) ∙ and_right (leb 0 p) false refl)

-- a first place below w, and each next one that rises and is below w
pub rising_adjacent : (w x : ℕ) (ps : List ℕ) (b : Bool) → Some x ≡ slice_get ps 0 → x < w → IsAllAdjacentAnswer (λ p q r. r ≡ (ltb p q && ltb q w)) ps b
    → b ≡ rising_below w ps
rising_adjacent w x ps true h l s =
    sym (rising_from_each 0 w ps (λ k. omega arith) (λ k k_in. ltb-true (at ps k) (at ps (suc k)) (pair k k_in).0) below)
  where
    pair : (k : ℕ) → suc k < length ps → (ltb (at ps k) (at ps (suc k)) ≡ true) × (ltb (at ps (suc k)) w ≡ true)
    pair k k_in =
        let next : k + 1 ≡ suc k = omega arith in
        subst (λ (m : ℕ). (ltb (at ps k) (at ps m) ≡ true) × (ltb (at ps m) w ≡ true)) next (and_parts _ _ (sym (s k 0 (omega arith))))

    below : (k : ℕ) → k < length ps → at ps k < w
    below zero k_in = first_below ps h
      where
        first_below : (qs : List ℕ) → Some x ≡ slice_get qs 0 → at qs 0 < w
        first_below [] e =
            let z : ◌≡◌ {A = ℕ} 0 1 = cc in absurd (omega arith)
        first_below (q ∷ qs) e =
            let same : x ≡ q = cc in omega arith
    below (suc k) k_in = ltb-true (at ps (suc k)) w (pair k k_in).1
rising_adjacent w x ps false h l s =
    sym (false_from_ne_true _ (λ r.
    false≢true (s.2 0
    ∙ and_from (ltb (at ps s.0) (at ps (s.0 + 1))) (ltb (at ps (s.0 + 1)) w)
    (lt-ltb (at ps s.0) (at ps (s.0 + 1)) (rising_up 0 w ps r s.0 (s.0 + 1) (omega arith) s.1))
    (lt-ltb (at ps (s.0 + 1)) w (rising_within 0 w ps r (s.0 + 1) s.1).1))))
