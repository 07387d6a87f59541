-- The witnesses of a proof, one after the other.
use Rattle.std.proofs.Common.{◌≡◌, ℕ, zero, suc, ◌+◌, ◌-◌, ◌*◌, ◌/◌, ◌<◌, ◌≤◌, Bool, true, not, List, [], ◌∷◌, ◌++◌, map, length, get_or, take, drop, Some, None, Option, sym, refl, ap, ◌∙◌, subst, inl, inr, suc-mul, zero-add, arith, lit<, length-append, length-take, false, cond, ltb}
use Rattle.std.specs.List.{range_with_len, flat_map, position_from}
use Rattle.std.proofs.lemmas.List.FromFn.{length-map-range_with_len, get_or-map-range_with_len}
use Rattle.std.proofs.lemmas.List.{ext_get_or, get_or_append_left, get_or-append_right, get_or-take, get_or-drop, get_or_past}
use Rattle.std.proofs.lemmas.Bool.{cond-true, cond-false, cases_Bool, cases_lt, lt-ltb}
use Rattle.std.proofs.lemmas.Nat.{div-mul-add}
use Rattle.header.specs.Fields.{Fields}
use Rattle.wire.specs.Values.{Witness}
use Rattle.fraudproof.specs.Proof.{witness_len, witness_at}
use Rattle.fraudproof.specs.Witness.{witnesses_of, witness_in}
use Rattle.fraud.specs.Accepted.{Every, places_of, shares_of}
use Rattle.fraud.specs.Check.{first_failing}

module _ (test : Witness → Bool) where
  -- none fails exactly if the test holds of every one
  pub none_fails : (n : ℕ) (ws : List Witness) → first_failing test n ws ≡ None → Every (λ w. test w ≡ true) ws
  unfolding first_failing Every
  none_fails n [] e = tt
  none_fails n (w ∷ ws) e =
      elim (cases_Bool (test w)) [
        | inl t ↦ (t, none_fails (n + 1) ws (sym (cond-true (test w) _ _ t) ∙ e))
        | inr f ↦ let g : ◌≡◌ {A = Option ℕ} (Some n) None = sym (cond-false (test w) _ _ f) ∙ e in absurd (let z : ◌≡◌ {A = ℕ} 0 1 = cc in omega arith)
      ]

  pub every_stands : (n : ℕ) (ws : List Witness) → Every (λ w. test w ≡ true) ws → first_failing test n ws ≡ None
  unfolding first_failing Every
  every_stands n [] h = refl
  every_stands n (w ∷ ws) h = cond-true (test w) _ _ h.0 ∙ every_stands (n + 1) ws h.1

  -- it is the first at which the test's denial holds
  pub first_is : (n : ℕ) (ws : List Witness) → position_from (λ w. not (test w)) n ws ≡ first_failing test n ws
  unfolding first_failing
  first_is n [] = refl
  first_is n (w ∷ ws) =
      elim (cases_Bool (test w)) [
        | inl t ↦ rw t (first_is (n + 1) ws)
        | inr f ↦ rw f refl
      ]

  -- going through the witnesses: those from i on are left
  module _ (g : ℕ → Witness) where
    from_there : (i m : ℕ) → first_failing test i (map g (range_with_len i (suc m))) ≡ cond (test (g i)) (first_failing test (i + 1) (map g (range_with_len (i + 1) m))) (Some i)
    unfolding first_failing
    from_there i m = refl

    pub fails_later : (i k : ℕ) → i < k → test (g i) ≡ true
        → first_failing test i (map g (range_with_len i (k - i))) ≡ first_failing test (i + 1) (map g (range_with_len (i + 1) (k - (i + 1))))
    fails_later i k l t =
        let e : k - i ≡ suc (k - (i + 1)) = omega arith in
        ap (λ m. first_failing test i (map g (range_with_len i m))) e ∙ from_there i (k - (i + 1)) ∙ cond-true (test (g i)) _ _ t

    pub fails_here : (i k : ℕ) → i < k → test (g i) ≡ false → first_failing test i (map g (range_with_len i (k - i))) ≡ Some i
    fails_here i k l f =
        let e : k - i ≡ suc (k - (i + 1)) = omega arith in
        ap (λ m. first_failing test i (map g (range_with_len i m))) e ∙ from_there i (k - (i + 1)) ∙ cond-false (test (g i)) _ _ f

    pub fails_none : (i k : ℕ) → k ≤ i → first_failing test i (map g (range_with_len i (k - i))) ≡ None
    unfolding first_failing
    fails_none i k l = let e : k - i ≡ 0 = omega arith in ap (λ m. first_failing test i (map g (range_with_len i m))) e

-- ---- going through the witnesses

pub witnesses_are : (h : Fields) (ws : List ℕ) → length ws ≡ h.k * witness_len h → witnesses_of h ws ≡ map (witness_at h ws) (range_with_len 0 h.k)
unfolding witnesses_of
witnesses_are h ws long =
    ap (λ n. map (witness_at h ws) (range_with_len 0 (n / witness_len h))) (let t : length ws ≡ h.k * witness_len h + 0 = omega arith in t)
    ∙ ap (λ n. map (witness_at h ws) (range_with_len 0 n)) (div-mul-add h.k (witness_len h) 0 (omega arith))

first_of_two : {v w : Witness} {vs ws : List Witness} → ◌≡◌ {A = List Witness} (v ∷ vs) (w ∷ ws) → v ≡ w
first_of_two e = cc

others_of_two : {v w : Witness} {vs ws : List Witness} → ◌≡◌ {A = List Witness} (v ∷ vs) (w ∷ ws) → vs ≡ ws
others_of_two e = cc

never_nil : {A : Type 0} (w : Witness) (ws : List Witness) → ◌≡◌ {A = List Witness} (w ∷ ws) [] → A
never_nil w ws e = absurd (let z : ◌≡◌ {A = ℕ} 0 1 = cc in omega arith)

module _ (g : ℕ → Witness) (i k : ℕ) where
  -- those from i on are left, and one comes
  pub record Turn (w : Witness) (ws : List Witness) : Type 0 where
    pub more : i < k
    pub here : w ≡ g i
    pub others : ws ≡ map g (range_with_len (i + 1) (k - (i + 1)))

  pub left_turn : (w : Witness) (ws left : List Witness) → left ≡ map g (range_with_len i (k - i)) → left ≡ w ∷ ws → Turn w ws
  left_turn w ws left is cut =
      elim (cases_lt i k) [
        | inl l ↦
            let e : k - i ≡ suc (k - (i + 1)) = omega arith in
            let both : w ∷ ws ≡ g i ∷ map g (range_with_len (i + 1) (k - (i + 1))) = sym cut ∙ is ∙ ap (λ m. map g (range_with_len i m)) e in
            record { more = l; here = first_of_two both; others = others_of_two both }
        | inr l ↦ let e : k - i ≡ 0 = omega arith in never_nil w ws (sym cut ∙ is ∙ ap (λ m. map g (range_with_len i m)) e)
      ]

  -- or none is left
  pub left_end : (left : List Witness) → left ≡ map g (range_with_len i (k - i)) → left ≡ [] → k ≤ i
  left_end left is none =
      elim (cases_lt i k) [
        | inl l ↦
            let e : k - i ≡ suc (k - (i + 1)) = omega arith in
            never_nil (g i) (map g (range_with_len (i + 1) (k - (i + 1)))) (sym (ap (λ m. map g (range_with_len i m)) e) ∙ sym is ∙ none)
        | inr l ↦ l
      ]

-- ---- the places

places_from : (g : ℕ → Witness) (a n : ℕ) → places_of (map g (range_with_len a n)) ≡ map (λ i. (g i).place) (range_with_len a n)
places_from g a zero = refl
places_from g a (suc n) = ap (λ ps. (g a).place ∷ ps) (places_from g (a + 1) n)

pub places_are : (g : ℕ → Witness) (k : ℕ) (ps : List ℕ) → length ps ≡ k → ((j : ℕ) → j < k → get_or ps j 0 ≡ (g j).place) → ps ≡ places_of (map g (range_with_len 0 k))
places_are g k ps long h =
    ext_get_or 0 ps (map (λ i. (g i).place) (range_with_len 0 k)) (long ∙ sym (length-map-range_with_len (λ i. (g i).place) 0 k))
    (λ j l. let b : j < k = omega arith in h j b ∙ sym (get_or-map-range_with_len (λ i. (g i).place) 0 k j j 0 b (zero-add j)))
    ∙ sym (places_from g 0 k)

pub place_at : (g : ℕ → Witness) (k j : ℕ) → j < k → get_or (places_of (map g (range_with_len 0 k))) j 0 ≡ (g j).place
place_at g k j l = ap (λ ps. get_or ps j 0) (places_from g 0 k) ∙ get_or-map-range_with_len (λ i. (g i).place) 0 k j j 0 l (zero-add j)

pub places_length : (ws : List Witness) → length (places_of ws) ≡ length ws
places_length [] = refl
places_length (w ∷ ws) = ap suc (places_length ws)

-- ---- the shares

pub shares_length : (g : ℕ → Witness) (s a n : ℕ) → ((i : ℕ) → i < a + n → length (g i).share ≡ s) → length (shares_of (map g (range_with_len a n))) ≡ n * s
shares_length g s a zero h = omega arith
shares_length g s a (suc n) h =
    let e : length (g a).share ≡ s = h a (omega arith) in
    let r : length (shares_of (map g (range_with_len (a + 1) n))) ≡ n * s = shares_length g s (a + 1) n (λ i l. h i (omega arith)) in
    let m : suc n * s ≡ n * s + s = suc-mul n s in
    length-append (g a).share (shares_of (map g (range_with_len (a + 1) n))) ∙ omega arith

pub shares_byte : (g : ℕ → Witness) (s a n : ℕ) → ((i : ℕ) → i < a + n → length (g i).share ≡ s) → (m b : ℕ) → m < n → b < s
    → get_or (shares_of (map g (range_with_len a n))) (m * s + b) 0 ≡ get_or (g (a + m)).share b 0
shares_byte g s a zero h m b l lb = absurd (omega arith)
shares_byte g s a (suc n) h zero b l lb =
    let e : length (g a).share ≡ s = h a (omega arith) in
    let z : 0 * s + b ≡ b = omega arith in
    ap (λ i. get_or (shares_of (map g (range_with_len a (suc n)))) i 0) z
    ∙ get_or_append_left (g a).share (shares_of (map g (range_with_len (a + 1) n))) 0 b (omega arith)
    ∙ ap (λ i. get_or (g i).share b 0) (let y : a ≡ a + 0 = omega arith in y)
shares_byte g s a (suc n) h (suc m) b l lb =
    let e : length (g a).share ≡ s = h a (omega arith) in
    let t : suc m * s ≡ m * s + s = suc-mul m s in
    get_or-append_right (g a).share (shares_of (map g (range_with_len (a + 1) n))) s (suc m * s + b) 0 e (omega arith)
    ∙ ap (λ i. get_or (shares_of (map g (range_with_len (a + 1) n))) i 0) (let y : suc m * s + b - s ≡ m * s + b = omega arith in y)
    ∙ shares_byte g s (a + 1) n (λ i k. h i (omega arith)) m b (omega arith) lb
    ∙ ap (λ i. get_or (g i).share b 0) (let y : a + 1 + m ≡ a + suc m = omega arith in y)

pub shares_joined : (g : ℕ → Witness) (a n : ℕ) → shares_of (map g (range_with_len a n)) ≡ flat_map (λ i. (g i).share) (range_with_len a n)
shares_joined g a zero = refl
shares_joined g a (suc n) = ap (λ xs. (g a).share ++ xs) (shares_joined g (a + 1) n)

-- a part of bytes is bytes
pub part_small : (s m : ℕ) (xs : List ℕ) (n : ℕ) → ((i : ℕ) → get_or xs i 0 < 256) → get_or (take s (drop m xs)) n 0 < 256
part_small s m xs n small =
    elim (cases_lt n s) [
      | inl l ↦ subst (λ x. x < 256) (sym (get_or-take s (drop m xs) n 0 l ∙ get_or-drop m xs n 0)) (small (m + n))
      | inr l ↦ subst (λ x. x < 256) (sym (get_or_past (take s (drop m xs)) n 0 (simp length-take (omega arith)))) (lit< tt)
    ]

-- ---- the records

-- each of the k witnesses is there
pub witness_found : (h : Fields) (ws : List ℕ) (i : ℕ) → length ws ≡ h.k * witness_len h → i < h.k
    → ◌≡◌ {A = Option Witness} (witness_in h ws i) (Some (witness_at h ws i))
witness_found h ws i long l =
    let e : length ws / witness_len h ≡ h.k =
    ap (λ n. n / witness_len h) (let t : length ws ≡ h.k * witness_len h + 0 = omega arith in t) ∙ div-mul-add h.k (witness_len h) 0 (omega arith) in
    cond-true (ltb i (length ws / witness_len h)) _ _ (ap (ltb i) e ∙ lt-ltb i h.k l)

pub never_none : {A : Type 0} (w : Witness) → ◌≡◌ {A = Option Witness} None (Some w) → A
never_none w e = absurd (let z : ◌≡◌ {A = ℕ} 0 1 = cc in omega arith)
