-- Witnesses cut from their records, one after the other.
use Rattle.std.proofs.Common.{◌≡◌, ℕ, zero, suc, ◌+◌, ◌-◌, ◌*◌, ◌/◌, ◌<◌, ◌≤◌, ltb, List, [], ◌∷◌, map, length, get_or, take, drop, Some, None, Option, sym, refl, ap, ◌∙◌, inl, inr, zero-add, arith, length-drop, add-mul, drop-drop}
use Rattle.std.specs.List.{range_with_len, slice_get}
use Rattle.std.specs.Option.{option_map, MatchOption}
use Rattle.std.proofs.lemmas.Bool.{cases_lt, cond-true, cond-false, lt-ltb, le-ltb}
use Rattle.std.proofs.lemmas.Option.{slice_get_read, slice_get_past}
use Rattle.std.proofs.Math.Nat.{add-div_left, div-eq_of_lt, div-lt_iff_lt-mul}
use Rattle.std.proofs.lemmas.List.FromFn.{length-map-range_with_len, get_or-map-range_with_len}
use Rattle.std.proofs.lemmas.List.{get_or-take}
use Rattle.header.specs.Fields.{Fields}
use Rattle.header.specs.Sizes.{path_len}
use Rattle.wire.specs.Values.{Witness}
use Rattle.fraudproof.specs.Proof.{witness_len, witness_of, witness_at}
use Rattle.fraudproof.specs.Witness.{values_of, some_values, witness_in, witnesses_of}
use Rattle.fraudproof.specs.declared.witness.Witness as parts

module _ (h : Fields) (ws : List ℕ) where
  -- numbered from a on, or from the next record on
  shifted : (a n : ℕ) → map (witness_at h ws) (range_with_len (a + 1) n) ≡ map (witness_at h (drop (witness_len h) ws)) (range_with_len a n)
  shifted a zero = refl
  shifted a (suc n) =
      let size : witness_len h + a * witness_len h ≡ (a + 1) * witness_len h = omega (arith, add-mul a 1 (witness_len h)) in
      let here : drop ((a + 1) * witness_len h) ws ≡ drop (a * witness_len h) (drop (witness_len h) ws) = sym (drop-drop (a * witness_len h) (witness_len h) ws ∙ ap (λ m. drop m ws) size) in
      ap (λ r. witness_of h r ∷ map (witness_at h ws) (range_with_len (a + 1 + 1) n)) here
      ∙ ap (λ vs. witness_at h (drop (witness_len h) ws) a ∷ vs) (shifted (a + 1) n)

  -- where there is no whole record there is no witness
  pub none_left : length ws < witness_len h → witnesses_of h ws ≡ []
  unfolding witnesses_of
  none_left l = ap (λ n. map (witness_at h ws) (range_with_len 0 n)) (div-eq_of_lt l)

  pub first_left : witness_len h ≤ length ws → witnesses_of h ws ≡ witness_of h ws ∷ witnesses_of h (drop (witness_len h) ws)
  unfolding witnesses_of
  first_left l =
      let rest : length (drop (witness_len h) ws) ≡ length ws - witness_len h = length-drop (witness_len h) ws in
      let split : length ws ≡ witness_len h + length (drop (witness_len h) ws) = omega arith in
      let n : length ws / witness_len h ≡ suc (length (drop (witness_len h) ws) / witness_len h) =
      ap (λ m. m / witness_len h) split ∙ add-div_left (length (drop (witness_len h) ws)) (omega arith) ∙ omega arith in
      let z : 0 * witness_len h ≡ 0 = omega arith in
      ap (λ m. map (witness_at h ws) (range_with_len 0 m)) n
      ∙ ap (λ m. witness_of h (drop m ws) ∷ map (witness_at h ws) (range_with_len 1 (length (drop (witness_len h) ws) / witness_len h))) z
      ∙ ap (λ vs. witness_of h ws ∷ vs) (shifted 0 (length (drop (witness_len h) ws) / witness_len h))

  pub left_length : length (witnesses_of h ws) ≡ length ws / witness_len h
  unfolding witnesses_of
  left_length = length-map-range_with_len (witness_at h ws) 0 (length ws / witness_len h)

  -- by its number
  found : (i : ℕ) → slice_get (witnesses_of h ws) i ≡ witness_in h ws i
  unfolding witnesses_of
  found i =
      elim (cases_lt i (length ws / witness_len h)) [
        | inl l ↦
            slice_get_read (witnesses_of h ws) (length ws / witness_len h) i (witness_at h ws i) (sym left_length) l
            (sym (get_or-map-range_with_len (witness_at h ws) 0 (length ws / witness_len h) i i (witness_at h ws i) l (zero-add i)))
            ∙ sym (cond-true (ltb i (length ws / witness_len h)) _ _ (lt-ltb i (length ws / witness_len h) l))
        | inr l ↦
            slice_get_past (witnesses_of h ws) i (omega (arith, left_length))
            ∙ sym (cond-false (ltb i (length ws / witness_len h)) _ _ (le-ltb i (length ws / witness_len h) l))
      ]

  pub seen_at : (i : ℕ) (o : Option parts.Witness) → option_map values_of o ≡ slice_get (witnesses_of h ws) i → some_values o ≡ witness_in h ws i
  seen_at i None e = e ∙ found i
  seen_at i (Some w) e = e ∙ found i

  -- the first one, cut off part by part
  pub first_cut : (n m place : ℕ) (head parts share behind path others : List ℕ) → n ≡ h.s → m ≡ path_len h
      → head ≡ take 9 ws → parts ≡ drop 9 ws → share ≡ take n parts → behind ≡ drop n parts → path ≡ take m behind → others ≡ drop m behind
      → length others + m ≡ length behind → length behind + n ≡ length parts → length parts + 9 ≡ length ws
      → place ≡ get_or head 6 0 + get_or head 7 0 * 256
      → witnesses_of h ws ≡ record { place = place; axis = get_or head 8 0; share = share; path = path } ∷ witnesses_of h others
  unfolding witness_of
  first_cut n m place head parts share behind path others n-is m-is a b c d e f p q r place-is =
      let at : (i : ℕ) → i < 9 → get_or head i 0 ≡ get_or ws i 0 = λ i l. ap (λ xs. get_or xs i 0) a ∙ get_or-take 9 ws i 0 l in
      let place' : place ≡ get_or ws 6 0 + get_or ws 7 0 * 256 =
      place-is ∙ ap (λ x. x + get_or head 7 0 * 256) (at 6 (omega arith)) ∙ ap (λ x. get_or ws 6 0 + x * 256) (at 7 (omega arith)) in
      let share' : share ≡ take h.s (drop 9 ws) = c ∙ ap (take n) b ∙ ap (λ i. take i (drop 9 ws)) n-is in
      let behind' : behind ≡ drop (9 + h.s) ws = d ∙ ap (drop n) b ∙ ap (λ i. drop i (drop 9 ws)) n-is ∙ drop-drop h.s 9 ws in
      let path' : path ≡ take (path_len h) (drop (9 + h.s) ws) = e ∙ ap (take m) behind' ∙ ap (λ i. take i (drop (9 + h.s) ws)) m-is in
      let size : 9 + h.s + path_len h ≡ witness_len h = omega arith in
      let others' : others ≡ drop (witness_len h) ws =
      f ∙ ap (drop m) behind' ∙ ap (λ i. drop i (drop (9 + h.s) ws)) m-is ∙ drop-drop (path_len h) (9 + h.s) ws ∙ ap (λ i. drop i ws) size in
      let w : witness_of h ws ≡ record { place = place; axis = get_or head 8 0; share = share; path = path } =
      rw (place', share', path', at 8 (omega arith)) refl in
      first_left (omega arith) ∙ ap (λ v. v ∷ witnesses_of h (drop (witness_len h) ws)) w
      ∙ ap (λ xs. record { place = place; axis = get_or head 8 0; share = share; path = path } ∷ witnesses_of h xs) (sym others')

-- ---- by its place

module _ (h : Fields) (ws : List ℕ) (i : ℕ) where
  -- behind the last whole record there is none
  pub none_at : length ws < i * witness_len h + witness_len h → witness_in h ws i ≡ None
  none_at l =
      let size : (i + 1) * witness_len h ≡ i * witness_len h + witness_len h = omega (arith, add-mul i 1 (witness_len h)) in
      let few : length ws / witness_len h < i + 1 = (div-lt_iff_lt-mul {k = witness_len h} {x = length ws} {y = i + 1} (omega arith)).1 (omega arith) in
      cond-false (ltb i (length ws / witness_len h)) (Some (witness_at h ws i)) None (le-ltb i (length ws / witness_len h) (omega arith))

  some_at : i * witness_len h + witness_len h ≤ length ws → i < length ws / witness_len h
  some_at l =
      let size : (i + 1) * witness_len h ≡ i * witness_len h + witness_len h = omega (arith, add-mul i 1 (witness_len h)) in
      elim (cases_lt i (length ws / witness_len h)) [
        | inl l ↦ l
        | inr m ↦
            let less : length ws < (i + 1) * witness_len h = (div-lt_iff_lt-mul {k = witness_len h} {x = length ws} {y = i + 1} (omega arith)).0 (omega arith) in
            absurd (omega arith)
      ]

  -- and the first that is left from a place on stands there
  left_at : (vs : List Witness) → witnesses_of h (drop (i * witness_len h) ws) ≡ vs → slice_get vs 0 ≡ witness_in h ws i
  left_at vs e =
      let rest : length (drop (i * witness_len h) ws) ≡ length ws - i * witness_len h = length-drop (i * witness_len h) ws in
      elim (cases_lt (length (drop (i * witness_len h) ws)) (witness_len h)) [
        | inl l ↦ ap (λ xs. slice_get xs 0) (sym e ∙ none_left h (drop (i * witness_len h) ws) l) ∙ sym (none_at (omega arith))
        | inr l ↦
            ap (λ xs. slice_get xs 0) (sym e ∙ first_left h (drop (i * witness_len h) ws) l)
            ∙ sym (cond-true (ltb i (length ws / witness_len h)) (Some (witness_at h ws i)) None (lt-ltb i (length ws / witness_len h) (some_at (omega arith))))
      ]

  pub cut_at : (o : Option parts.Witness) (t : List Witness) → MatchOption o ((witnesses_of h (drop (i * witness_len h) ws) ≡ []) × (t ≡ [])) (λ w. witnesses_of h (drop (i * witness_len h) ws) ≡ values_of w ∷ t)
      → some_values o ≡ witness_in h ws i
  cut_at None t e = left_at [] e.0
  cut_at (Some w) t e = left_at (values_of w ∷ t) e
