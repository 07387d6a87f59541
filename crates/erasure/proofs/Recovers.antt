-- The codeword through given shares, from the weights; and the outcomes of the calls.
use Rattle.std.proofs.Common.{◌≡◌, ℕ, zero, suc, ◌+◌, ◌-◌, ◌*◌, ◌<◌, ◌≤◌, true, false, ◌&&◌, eqb, ltb, leb, List, length, get_or, take, replicate, Ok, Err, Result, sym, refl, ap, ◌∙◌, subst, zero-add, arith, length-take}
use Rattle.std.specs.List.{range_with_len}
use Rattle.std.proofs.lemmas.List.FromFn.{length-range_with_len, get_or-range_with_len}
use Rattle.std.proofs.lemmas.List.{ext_get_or}
use Rattle.std.proofs.lemmas.Bool.{and_from, and_parts, eqb-true, le-leb, lt-ltb}
use Rattle.octets.specs.Outcome.{plain}
use Rattle.octets.specs.Shares.{byte_of}
use Rattle.octets.proofs.Shares.{share_from_bytes}
use Rattle.codes.specs.Code.{Table, Weight, Places, FirstLaw, SecondLaw, WeightLaw, Meets, applied}
use Rattle.codes.specs.Words.{at, codeword, Through}
use Rattle.codes.proofs.Words.{applied_data, codeword_word, word_from_bytes, through_only}
use Rattle.erasure.specs.Limits.{ok_width, ok_size}
use Rattle.erasure.specs.Places.{rising_from, rising_below}
use Rattle.erasure.specs.Calls.{fitting, encode_outcome, recover_outcome, GivesBack, NoOther}

-- ---- the word

pub through_from_weights : (T : Table) (W : Weight) → WeightLaw T W → (k s : ℕ) → k ≤ 128 → (ps xs out : List ℕ) → Places k (at ps)
    → length xs ≡ k * s → length out ≡ 2 * k * s → ((n : ℕ) → get_or xs n 0 < 256)
    → ((i : ℕ) → i < 2 * k → (b : ℕ) → b < s → byte_of s i b out ≡ applied k (W k (at ps) i) (λ j. byte_of s j b xs))
    → Through T k s ps xs out
through_from_weights T W law k s hk ps xs out pl lx lo small h =
    record {
      word = word_from_bytes T k s out lo
          (λ i hi b hb.
          h i hi b hb ∙ sym ((meets b).coded i hi)
          ∙ applied_data k (T k i) (λ i. applied k (W k (at ps) i) (λ j. byte_of s j b xs)) (λ j. byte_of s j b out) (λ j hj. sym (h j (omega arith) b hb)));
      given = λ j hj.
          share_from_bytes s (at ps j) j (2 * k) k out xs lo lx (pl.below j hj) hj
          (λ b hb. h (at ps j) (pl.below j hj) b hb ∙ (meets b).given j hj);
    }
  where
    meets : (b : ℕ) → Meets T k (at ps) (λ j. byte_of s j b xs) (λ i. applied k (W k (at ps) i) (λ j. byte_of s j b xs))
    meets b = law k hk (at ps) (λ j. byte_of s j b xs) pl (λ j hj. small (j * s + b))

-- a word through shares of a codeword is that codeword
pub gives_back : (T : Table) → FirstLaw T → SecondLaw T → (k s : ℕ) → k ≤ 128 → (ps xs out : List ℕ) → Places k (at ps)
    → Through T k s ps xs out → GivesBack T k s ps xs out
gives_back T first second k s hk ps xs out pl t d same =
    through_only T second k s hk ps xs out (codeword T k s d) pl t
    (record { word = codeword_word T first k s hk d; given = λ j hj. sym (same j hj) })

pub no_other : (T : Table) → SecondLaw T → (k s : ℕ) → k ≤ 128 → (ps xs out : List ℕ) → Places k (at ps)
    → Through T k s ps xs out → NoOther T k s ps xs out
no_other T second k s hk ps xs out pl t ws u = through_only T second k s hk ps xs ws out pl u t

-- ---- the places 0, 1, 2 and so on

-- the part of a space of 32 that they take
pub places_long : (k : ℕ) → k ≤ 32 → length (take (k - 0) (replicate {A = ℕ} 32 0)) ≡ k
places_long k h = simp length-take (omega arith)

counting_rises : (a n w : ℕ) → a + n ≤ w → rising_from a w (range_with_len a n) ≡ true
unfolding rising_from
counting_rises a zero w h = refl
counting_rises a (suc n) w h =
    and_from (leb a a) (ltb a w && rising_from (a + 1) w (range_with_len (a + 1) n)) (le-leb a a (omega arith))
    (and_from (ltb a w) (rising_from (a + 1) w (range_with_len (a + 1) n)) (lt-ltb a w (omega arith)) (counting_rises (a + 1) n w (omega arith)))

pub first_rises : (k : ℕ) (ps : List ℕ) → length ps ≡ k → ((j : ℕ) → j < k → at ps j ≡ j) → rising_below (2 * k) ps ≡ true
first_rises k ps long first =
    ap (rising_below (2 * k))
    (ext_get_or 0 ps (range_with_len 0 k) (long ∙ sym (length-range_with_len 0 k))
    (λ j h. let l : j < k = omega arith in first j l ∙ sym (get_or-range_with_len 0 k j 0 l ∙ zero-add j)))
    ∙ counting_rises 0 k (2 * k) (omega arith)

-- ---- outcomes

pub fitting_parts : (k s n m : ℕ) → fitting k s n m ≡ true → (n ≡ k * s) × (m ≡ 2 * k * s)
fitting_parts k s n m h =
    let a = and_parts (eqb n (k * s)) (eqb m (2 * k * s)) h in (eqb-true n (k * s) a.0, eqb-true m (2 * k * s) a.1)

module _ (k s n m : ℕ) where
  pub encode_width : ok_width k ≡ false → encode_outcome k s n m ≡ Err (plain 1)
  unfolding encode_outcome
  encode_width e = rw e

  pub encode_size : ok_width k ≡ true → ok_size s ≡ false → encode_outcome k s n m ≡ Err (plain 2)
  unfolding encode_outcome
  encode_size e f = rw (e, f)

  pub encode_length : ok_width k ≡ true → ok_size s ≡ true → fitting k s n m ≡ false → encode_outcome k s n m ≡ Err (plain 3)
  unfolding encode_outcome
  encode_length e f g = rw (e, f, g)

  pub encode_fine : ok_width k ≡ true → ok_size s ≡ true → fitting k s n m ≡ true → encode_outcome k s n m ≡ Ok tt
  unfolding encode_outcome
  encode_fine e f g = rw (e, f, g)

module _ (k s : ℕ) (ps : List ℕ) (n m : ℕ) where
  pub recover_width : ok_width k ≡ false → recover_outcome k s ps n m ≡ Err (plain 1)
  unfolding recover_outcome
  recover_width e = rw e

  pub recover_size : ok_width k ≡ true → ok_size s ≡ false → recover_outcome k s ps n m ≡ Err (plain 2)
  unfolding recover_outcome
  recover_size e f = rw (e, f)

  pub recover_length : ok_width k ≡ true → ok_size s ≡ true → (eqb (length ps) k && fitting k s n m) ≡ false → recover_outcome k s ps n m ≡ Err (plain 3)
  unfolding recover_outcome
  recover_length e f g = rw (e, f, g)

  pub recover_rise : ok_width k ≡ true → ok_size s ≡ true → (eqb (length ps) k && fitting k s n m) ≡ true → rising_below (2 * k) ps ≡ false
      → recover_outcome k s ps n m ≡ Err (plain 5)
  unfolding recover_outcome
  recover_rise e f g h = rw (e, f, g, h)

  pub recover_fine : ok_width k ≡ true → ok_size s ≡ true → (eqb (length ps) k && fitting k s n m) ≡ true → rising_below (2 * k) ps ≡ true
      → recover_outcome k s ps n m ≡ Ok tt
  unfolding recover_outcome
  recover_fine e f g h = rw (e, f, g, h)

-- what no refusal fits can be filled
pub fills : (k s n m : ℕ) (ps : List ℕ) → length ps ≡ k → ok_width k ≡ true → rising_below (2 * k) ps ≡ true → s ≤ 512 → fitting k s n m ≡ true
    → (ok_width (length ps) ≡ true) × ((rising_below (2 * length ps) ps ≡ true) × ((s < 513) × ((n ≡ length ps * s) × (m ≡ 2 * length ps * s))))
fills k s n m ps long w r z f =
    subst (λ (i : ℕ). (ok_width i ≡ true) × ((rising_below (2 * i) ps ≡ true) × ((s < 513) × ((n ≡ i * s) × (m ≡ 2 * i * s))))) (sym long)
    (w, (r, (omega arith, ((fitting_parts k s n m f).0, (fitting_parts k s n m f).1))))

pub not_both : {A E : Type 0} (r : Result A E) (e : E) (x : A) → r ≡ Err e → r ≡ Ok x → ⊥
not_both r e x p q = let z : ◌≡◌ {A = ℕ} 0 1 = cc in omega arith
