-- When a row goes with some shares.
use Rattle.std.proofs.Common.{◌≡◌, ℕ, ◌+◌, ◌*◌, ◌<◌, ◌≤◌, true, false, ◌&&◌, eqb, ltb, leb, List, length, get_or, sym, refl, ap, ◌∙◌, zero-add, arith}
use Rattle.std.proofs.lemmas.List.FromFn.{length-map-range_with_len, get_or-map-range_with_len}
use Rattle.std.proofs.lemmas.List.{ext_get_or}
use Rattle.std.proofs.lemmas.Bool.{and_parts, and_from, and_right, eqb-true, eq-eqb, leb-true, ltb-true, le-leb, lt-ltb, le-ltb, lt-leb}
use Rattle.octets.specs.Shares.{byte_of}
use Rattle.codes.specs.Code.{applied}
use Rattle.codes.specs.Words.{at}
use Rattle.erasure.specs.Rows.{row_sum, row_fits}

pub record RowFits (k m size from n : ℕ) : Type 0 where
  pub some : 0 < k
  pub within : from + n ≤ size
  pub long : m ≡ k * size

pub row_parts : (k m size from n : ℕ) → row_fits k m size from n ≡ true → RowFits k m size from n
unfolding row_fits
row_parts k m size from n h =
    let a = and_parts (ltb 0 k) (leb (from + n) size && eqb m (k * size)) h in
    let b = and_parts (leb (from + n) size) (eqb m (k * size)) a.1 in
    record { some = ltb-true 0 k a.0; within = leb-true (from + n) size b.0; long = eqb-true m (k * size) b.1 }

pub row_fits_lem : (k m size from n : ℕ) → 0 < k → from + n ≤ size → m ≡ k * size → row_fits k m size from n ≡ true
unfolding row_fits
row_fits_lem k m size from n a b e =
    and_from (ltb 0 k) (leb (from + n) size && eqb m (k * size)) (lt-ltb 0 k a)
    (and_from (leb (from + n) size) (eqb m (k * size)) (le-leb (from + n) size b) (eq-eqb m (k * size) e))

pub row_by_length : (k m size from n : ℕ) → 0 < k → from + n ≤ size → eqb m (k * size) ≡ row_fits k m size from n
unfolding row_fits
row_by_length k m size from n a b =
    sym (ap (λ t. t && (leb (from + n) size && eqb m (k * size))) (lt-ltb 0 k a) ∙ ap (λ t. t && eqb m (k * size)) (le-leb (from + n) size b))

pub row_empty : (k m size from n : ℕ) → k ≡ 0 → false ≡ row_fits k m size from n
unfolding row_fits
row_empty k m size from n e = sym (ap (λ t. t && (leb (from + n) size && eqb m (k * size))) (le-ltb 0 k (omega arith)))

pub row_past : (k m size from n : ℕ) → size < from + n → false ≡ row_fits k m size from n
unfolding row_fits
row_past k m size from n l =
    sym (ap (λ t. ltb 0 k && (t && eqb m (k * size))) (lt-leb (from + n) size l) ∙ and_right (ltb 0 k) false refl)

-- ---- the sum by its bytes

pub row_sum_length : (row : List ℕ) (size from n : ℕ) (xs : List ℕ) → length (row_sum row size from n xs) ≡ n
unfolding row_sum
row_sum_length row size from n xs = length-map-range_with_len (λ b. applied (length row) (at row) (λ j. byte_of size j (from + b) xs)) 0 n

pub row_sum_byte : (row : List ℕ) (size from n : ℕ) (xs : List ℕ) (b : ℕ) → b < n
    → get_or (row_sum row size from n xs) b 0 ≡ applied (length row) (at row) (λ j. byte_of size j (from + b) xs)
unfolding row_sum
row_sum_byte row size from n xs b h =
    get_or-map-range_with_len (λ b. applied (length row) (at row) (λ j. byte_of size j (from + b) xs)) 0 n b b 0 h (zero-add b)

pub row_sum_is : (row : List ℕ) (size from : ℕ) (xs old new : List ℕ) → length new ≡ length old
    → ((b : ℕ) → b < length old → get_or new b 0 ≡ applied (length row) (at row) (λ j. byte_of size j (from + b) xs))
    → new ≡ row_sum row size from (length old) xs
row_sum_is row size from xs old new long h =
    ext_get_or 0 new (row_sum row size from (length old) xs) (long ∙ sym (row_sum_length row size from (length old) xs))
    (λ b hb. let l : b < length old = omega arith in h b l ∙ sym (row_sum_byte row size from (length old) xs b l))
