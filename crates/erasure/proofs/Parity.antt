-- The shares behind the data.
use Rattle.std.proofs.Common.{◌≡◌, ℕ, ◌+◌, ◌-◌, ◌*◌, ◌/◌, ◌%◌, ◌<◌, ◌≤◌, true, cond, ◌&&◌, eqb, ltb, leb, List, ◌++◌, length, get_or, take, drop, sym, ap, ◌∙◌, subst, ap₂, inl, inr, mod-lt, div-add-mod', arith, lit<, length-append, length-drop, length-take}
use borrow.Rule.Slice.PartMut.{put_mid}
use Rattle.std.proofs.lemmas.Nat.{div-mul-add, mod-mul-add, mul-le}
use Rattle.std.proofs.lemmas.List.{take-append-drop, take_at, get_or-take, get_or_append_left, get_or_past}
use Rattle.std.proofs.lemmas.Bool.{and_parts, and_from, eqb-true, eq-eqb, ne_eqb, leb-true, le-leb, lt-ltb, le-ltb, cases_eq, cases_lt, cond-true, cond-false}
use Rattle.octets.specs.Shares.{share, byte_of}
use Rattle.octets.proofs.Shares.{same_from_bytes, byte_take, share_read, share_length, share_byte_lem}
use Rattle.octets.proofs.Cells.{both_halves, byte_drop, byte_cell, by_cells, cell_below, put_rest}
use Rattle.codes.specs.Code.{Table, Weight, Places, FirstLaw, WeightLaw, Meets, applied, symbol}
use Rattle.codes.specs.Words.{at, codeword}
use Rattle.codes.proofs.Words.{applied_row, applied_data, applied_low, codeword_length, codeword_from_bytes, codeword_byte, codeword_front}
use Rattle.erasure.specs.Limits.{ok_width}
use Rattle.erasure.specs.Calls.{parity_fits, complete_fits}
use Rattle.erasure.specs.Weights.{CodeRows, weight_table}
use Rattle.erasure.proofs.Bounds.{width_most}
use Rattle.erasure.proofs.Rises.{rising_places}
use Rattle.erasure.proofs.Tables.{table_byte, table_long}
use Rattle.erasure.proofs.Recovers.{first_rises}

-- ---- lengths

-- n is k times the size if the quotient is the size and nothing is left
pub holds_by_rest : (k size n : ℕ) → n / k ≡ size → eqb (n % k) 0 ≡ eqb n (k * size)
holds_by_rest k size n e =
    let d : size * k + n % k ≡ n = ap (λ (x : ℕ). x * k + n % k) (sym e) ∙ div-add-mod' n k in
    elim (cases_eq (n % k) 0) [
      | inl z ↦ eq-eqb (n % k) 0 z ∙ sym (eq-eqb n (k * size) (omega arith))
      | inr z ↦ ne_eqb (n % k) 0 z ∙ sym (ne_eqb n (k * size) (λ f. z (omega arith)))
    ]

pub holds_not : (k size n : ℕ) → 0 < k → (n / k ≡ size → ⊥) → eqb (n / k) size ≡ eqb n (k * size)
holds_not k size n h d =
    ne_eqb (n / k) size d
    ∙ sym (ne_eqb n (k * size) (λ f. d (ap (λ (x : ℕ). x / k) (let e : n ≡ size * k + 0 = omega arith in e) ∙ div-mul-add size k 0 h)))

-- what it takes to have a parity
pub record ParityFits (k size n m : ℕ) : Type 0 where
  pub wide : ok_width k ≡ true
  pub from : n ≡ k * size
  pub into : m ≡ k * size

pub parity_parts : (k size n m : ℕ) → parity_fits k size n m ≡ true → ParityFits k size n m
unfolding parity_fits
parity_parts k size n m h =
    let a = and_parts (ok_width k) (eqb n (k * size) && eqb m (k * size)) h in
    let b = and_parts (eqb n (k * size)) (eqb m (k * size)) a.1 in
    record { wide = a.0; from = eqb-true n (k * size) b.0; into = eqb-true m (k * size) b.1 }

pub parity_fits_lem : (k size n m : ℕ) → ok_width k ≡ true → n ≡ k * size → m ≡ k * size → parity_fits k size n m ≡ true
unfolding parity_fits
parity_fits_lem k size n m w e f =
    and_from (ok_width k) (eqb n (k * size) && eqb m (k * size)) w
    (and_from (eqb n (k * size)) (eqb m (k * size)) (eq-eqb n (k * size) e) (eq-eqb m (k * size) f))

-- ---- the shares

-- row i, as a part of the table
pub row_part : (n k i : ℕ) (rows : List ℕ) (d : ℕ → ℕ) → length rows ≡ n * k → i < n
    → applied (length (take (i * k + k - i * k) (drop (i * k) rows))) (at (take (i * k + k - i * k) (drop (i * k) rows))) d
    ≡ applied k (λ j. byte_of k i j rows) d
row_part n k i rows d long h =
    ap (λ ws. applied (length ws) (at ws) d) (share_read k i rows)
    ∙ ap (λ (m : ℕ). applied m (at (share k i rows)) d) (share_length k i n rows long h)
    ∙ applied_row k (at (share k i rows)) (λ j. byte_of k i j rows) d (λ j hj. share_byte_lem k i j rows hj)

-- the second half of a table of 2k rows, as a part of it
pub half_long : (k : ℕ) (rows : List ℕ) → length rows ≡ 2 * k * k → length (take (length rows - k * k) (drop (k * k) rows)) ≡ k * k
half_long k rows long = let e : 2 * k * k ≡ k * k + k * k = both_halves k k in simp (length-take, length-drop) (omega arith)

pub half_byte : (k i j : ℕ) (rows : List ℕ) → length rows ≡ 2 * k * k → i < k → j < k
    → byte_of k i j (take (length rows - k * k) (drop (k * k) rows)) ≡ byte_of k (k + i) j rows
half_byte k i j rows long hi hj =
    let e : 2 * k * k ≡ k * k + k * k = both_halves k k in
    let l : i * k + j < k * k = cell_below k k i j hi hj in
    get_or-take (length rows - k * k) (drop (k * k) rows) (i * k + j) 0 (omega arith) ∙ byte_drop k k i j rows

pub half_row_byte : (k i j : ℕ) (rows : List ℕ) → i < k → j < k → byte_of k i j (take (2 * k * k - k * k) (drop (k * k) rows)) ≡ byte_of k (k + i) j rows
half_row_byte k i j rows hi hj =
    let e : 2 * k * k ≡ k * k + k * k = both_halves k k in
    let l : i * k + j < k * k = cell_below k k i j hi hj in
    get_or-take (2 * k * k - k * k) (drop (k * k) rows) (i * k + j) 0 (omega arith) ∙ byte_drop k k i j rows

-- the weights of the shares at the first k places are the rows of the code
pub front_weights : (T : Table) (W : Weight) → WeightLaw T W → (k : ℕ) → k ≤ 128 → (p d : ℕ → ℕ) → Places k p → ((j : ℕ) → j < k → p j ≡ j)
    → (i : ℕ) → i < 2 * k → applied k (W k p i) d ≡ symbol T k d i
front_weights T W law k hk p d pl first i hi =
    sym (applied_low k (W k p i) d) ∙ sym (meets.coded i hi)
    ∙ applied_data k (T k i) (λ i. applied k (W k p i) (λ j. d j % 256)) (λ j. d j % 256)
    (λ j hj. ap (λ (x : ℕ). applied k (W k p x) (λ j. d j % 256)) (sym (first j hj)) ∙ meets.given j hj)
    ∙ applied_low k (T k i) d
  where
    meets : Meets T k p (λ j. d j % 256) (λ i. applied k (W k p i) (λ j. d j % 256))
    meets = law k hk p (λ j. d j % 256) pl (λ j hj. mod-lt (d j) (lit< tt))

-- so their table has the code's own sums
pub code_rows_from : (T : Table) (W : Weight) → WeightLaw T W → (k : ℕ) → ok_width k ≡ true → (ps rows : List ℕ) → length ps ≡ k
    → ((j : ℕ) → j < length ps → at ps j ≡ j) → rows ≡ weight_table W (length ps) ps → CodeRows T k rows
code_rows_from T W law k wide ps rows long first e =
    let is : rows ≡ weight_table W k ps = e ∙ ap (λ (n : ℕ). weight_table W n ps) long in
    let here : (j : ℕ) → j < k → at ps j ≡ j = λ j h. first j (omega arith) in
    let m : k ≤ 32 = width_most k wide in
    record {
      long = ap length is ∙ table_long W k ps;
      sums = λ i hi d.
          applied_row k (λ j. byte_of k i j rows) (W k (at ps) i) d (λ j hj. ap (byte_of k i j) is ∙ table_byte W k ps i j hi hj)
          ∙ front_weights T W law k (omega arith) (at ps) d (rising_places k ps long (first_rises k ps long here)) here i hi;
    }

-- what stands behind the first k shares of a codeword
pub rest_from_bytes : (T : Table) (k s : ℕ) (xs out : List ℕ) → length out ≡ k * s
    → ((i : ℕ) → i < k → (b : ℕ) → b < s → byte_of s i b out ≡ symbol T k (λ j. byte_of s j b xs) (k + i)) → out ≡ drop (k * s) (codeword T k s xs)
rest_from_bytes T k s xs out long h =
    same_from_bytes k s out (drop (k * s) (codeword T k s xs)) long
    (length-drop (k * s) (codeword T k s xs)
    ∙ (let e : length (codeword T k s xs) ≡ 2 * k * s = codeword_length T k s xs in
    let f : 2 * k * s ≡ k * s + k * s = both_halves k s in
    omega arith))
    (λ i hi b hb. h i hi b hb
    ∙ sym (byte_drop k s i b (codeword T k s xs) ∙ codeword_byte T k s (k + i) b xs (omega arith) hb))

-- the sums of the shares by the second half of the code's rows
pub rest_from_rows : (T : Table) (k s : ℕ) (rows xs out : List ℕ) → CodeRows T k rows → length out ≡ k * s
    → ((i : ℕ) → i < k → (b : ℕ) → b < s
    → byte_of s i b out ≡ applied k (λ j. byte_of k i j (take (length rows - k * k) (drop (k * k) rows))) (λ j. byte_of s j b xs))
    → out ≡ drop (k * s) (codeword T k s xs)
rest_from_rows T k s rows xs out are long h =
    rest_from_bytes T k s xs out long
    (λ i hi b hb. h i hi b hb
    ∙ applied_row k (λ j. byte_of k i j (take (length rows - k * k) (drop (k * k) rows))) (λ j. byte_of k (k + i) j rows) (λ j. byte_of s j b xs)
    (λ j hj. half_byte k i j rows are.long hi hj)
    ∙ are.sums (k + i) (omega arith) (λ j. byte_of s j b xs))

-- the data and what stands behind them
pub codeword_halves : (T : Table) → FirstLaw T → (k s : ℕ) → k ≤ 128 → (xs : List ℕ) → length xs ≡ k * s → ((n : ℕ) → get_or xs n 0 < 256)
    → xs ++ drop (k * s) (codeword T k s xs) ≡ codeword T k s xs
codeword_halves T first k s hk xs long small =
    ap (λ ys. ys ++ drop (k * s) (codeword T k s xs)) (sym (codeword_front T first k s hk xs long small))
    ∙ take-append-drop (k * s) (codeword T k s xs)

-- what stands behind the data takes the parity
pub rest_fits : (k s : ℕ) → ok_width k ≡ true → (xs front tail : List ℕ) → length xs ≡ k * s → length tail ≡ k * s → front ≡ xs
    → parity_fits k s (length xs) (length (take (length (front ++ tail) - k * s) (drop (k * s) (front ++ tail)))) ≡ true
rest_fits k s w xs front tail long behind e =
    let lf : length front ≡ k * s = ap length e ∙ long in
    parity_fits_lem k s (length xs) (length (take (length (front ++ tail) - k * s) (drop (k * s) (front ++ tail)))) w long
    (simp (length-take, length-drop, length-append) (omega arith))

-- the data, and the parity written into what stands behind them
pub encoded : (T : Table) → FirstLaw T → (k s : ℕ) → ok_width k ≡ true → (xs front tail rest : List ℕ)
    → length xs ≡ k * s → length tail ≡ k * s → ((n : ℕ) → get_or xs n 0 < 256) → front ≡ xs
    → rest ≡ cond (parity_fits k s (length xs) (length (take (length (front ++ tail) - k * s) (drop (k * s) (front ++ tail)))))
    (drop (k * s) (codeword T k s xs)) (take (length (front ++ tail) - k * s) (drop (k * s) (front ++ tail)))
    → put_mid (k * s) (length (front ++ tail) - k * s) (front ++ tail) rest ≡ codeword T k s xs
encoded T first k s w xs front tail rest long behind small e r =
    let m : k ≤ 32 = width_most k w in
    let lf : length front ≡ k * s = ap length e ∙ long in
    put_rest (k * s) (front ++ tail) rest
    ∙ ap₂ ◌++◌ (take_at front tail (k * s) lf ∙ e)
    (r ∙ cond-true (parity_fits k s (length xs) (length (take (length (front ++ tail) - k * s) (drop (k * s) (front ++ tail)))))
    (drop (k * s) (codeword T k s xs)) (take (length (front ++ tail) - k * s) (drop (k * s) (front ++ tail)))
    (rest_fits k s w xs front tail long behind e))
    ∙ codeword_halves T first k s (omega arith) xs long small

-- ---- completion in place

-- what it takes to complete a codeword
pub record CompleteFits (k w s n : ℕ) : Type 0 where
  pub wide : ok_width k ≡ true
  pub some : 1 ≤ w
  pub few : w ≤ 64
  pub sized : s ≤ 512
  pub long : n ≡ 2 * k * (w * s)

pub complete_parts : (k w s n : ℕ) → complete_fits k w s n ≡ true → CompleteFits k w s n
unfolding complete_fits
complete_parts k w s n h =
    let a = and_parts (ok_width k) (leb 1 w && (leb w 64 && (leb s 512 && eqb n (2 * k * (w * s))))) h in
    let b = and_parts (leb 1 w) (leb w 64 && (leb s 512 && eqb n (2 * k * (w * s)))) a.1 in
    let c = and_parts (leb w 64) (leb s 512 && eqb n (2 * k * (w * s))) b.1 in
    let d = and_parts (leb s 512) (eqb n (2 * k * (w * s))) c.1 in
    record { wide = a.0; some = leb-true 1 w b.0; few = leb-true w 64 c.0; sized = leb-true s 512 d.0; long = eqb-true n (2 * k * (w * s)) d.1 }

pub complete_fits_lem : (k w s n : ℕ) → ok_width k ≡ true → 1 ≤ w → w ≤ 64 → s ≤ 512 → n ≡ 2 * k * (w * s) → complete_fits k w s n ≡ true
unfolding complete_fits
complete_fits_lem k w s n wide some few sized e =
    and_from (ok_width k) (leb 1 w && (leb w 64 && (leb s 512 && eqb n (2 * k * (w * s))))) wide
    (and_from (leb 1 w) (leb w 64 && (leb s 512 && eqb n (2 * k * (w * s)))) (le-leb 1 w some)
    (and_from (leb w 64) (leb s 512 && eqb n (2 * k * (w * s))) (le-leb w 64 few)
    (and_from (leb s 512) (eqb n (2 * k * (w * s))) (le-leb s 512 sized) (eq-eqb n (2 * k * (w * s)) e))))

-- the front of bytes is bytes
pub front_small : (xs ys : List ℕ) → ((n : ℕ) → get_or (xs ++ ys) n 0 < 256) → (n : ℕ) → get_or xs n 0 < 256
front_small xs ys small n =
    elim (cases_lt n (length xs)) [
      | inl l ↦ subst (λ (x : ℕ). x < 256) (get_or_append_left xs ys 0 n l) (small n)
      | inr l ↦ subst (λ (x : ℕ). x < 256) (sym (get_or_past xs n 0 l)) (lit< tt)
    ]

-- by cells, shares being of w cells of s bytes: what is said of each cell's bytes, said of each share's
pub by_share_bytes : (k w s : ℕ) (R : ℕ → ℕ → ℕ) (xs out : List ℕ)
    → ((m : ℕ) → m < k * w → (b : ℕ) → b < s → byte_of s m b out ≡ applied k (R (m / w)) (λ j. byte_of s (j * w + m % w) b xs))
    → (i : ℕ) → i < k → (x : ℕ) → x < w * s → byte_of (w * s) i x out ≡ applied k (R i) (λ j. byte_of (w * s) j x xs)
by_share_bytes k w s R xs out h i hi =
    by_cells w s (λ x. byte_of (w * s) i x out ≡ applied k (R i) (λ j. byte_of (w * s) j x xs))
    (λ c b hc hb.
    byte_cell w s i c b out ∙ h (i * w + c) (cell_below k w i c hi hc) b hb
    ∙ ap (λ (r : ℕ). applied k (R r) (λ j. byte_of s (j * w + (i * w + c) % w) b xs)) (div-mul-add i w c hc)
    ∙ applied_data k (R i) (λ j. byte_of s (j * w + (i * w + c) % w) b xs) (λ j. byte_of (w * s) j (c * s + b) xs)
    (λ j hj. ap (λ (r : ℕ). byte_of s (j * w + r) b xs) (mod-mul-add i w c hc) ∙ sym (byte_cell w s j c b xs)))

-- the same of all shares, of which the first k stay, shares being of w cells of s bytes: what is said of each cell's bytes, said of each share's
pub kept_share_bytes : (k w s : ℕ) (R : ℕ → ℕ → ℕ) (old new : List ℕ) → length new ≡ 2 * k * (w * s)
    → ((m : ℕ) → m < 2 * k * w → (b : ℕ) → b < s
    → byte_of s m b new ≡ cond (ltb m (k * w)) (byte_of s m b old) (applied k (R (m / w)) (λ j. byte_of s (j * w + m % w) b old)))
    → (i : ℕ) → i < 2 * k → (x : ℕ) → x < w * s
    → byte_of (w * s) i x new ≡ cond (ltb i k) (byte_of (w * s) i x old) (applied k (R i) (λ j. byte_of (w * s) j x old))
kept_share_bytes k w s R old new long h i hi =
    by_cells w s (λ x. byte_of (w * s) i x new ≡ cond (ltb i k) (byte_of (w * s) i x old) (applied k (R i) (λ j. byte_of (w * s) j x old))) at
  where
    at : (c b : ℕ) → c < w → b < s
        → byte_of (w * s) i (c * s + b) new
        ≡ cond (ltb i k) (byte_of (w * s) i (c * s + b) old) (applied k (R i) (λ j. byte_of (w * s) j (c * s + b) old))
    at c b hc hb =
        let here : byte_of (w * s) i (c * s + b) new
        ≡ cond (ltb (i * w + c) (k * w)) (byte_of s (i * w + c) b old) (applied k (R ((i * w + c) / w)) (λ j. byte_of s (j * w + (i * w + c) % w) b old)) =
        byte_cell w s i c b new ∙ h (i * w + c) (cell_below (2 * k) w i c hi hc) b hb in
        elim (cases_lt i k) [
          | inl l ↦
              here
              ∙ cond-true (ltb (i * w + c) (k * w)) (byte_of s (i * w + c) b old)
              (applied k (R ((i * w + c) / w)) (λ j. byte_of s (j * w + (i * w + c) % w) b old)) (lt-ltb (i * w + c) (k * w) (cell_below k w i c l hc))
              ∙ sym (byte_cell w s i c b old)
              ∙ sym (cond-true (ltb i k) (byte_of (w * s) i (c * s + b) old) (applied k (R i) (λ j. byte_of (w * s) j (c * s + b) old)) (lt-ltb i k l))
          | inr l ↦
              here
              ∙ cond-false (ltb (i * w + c) (k * w)) (byte_of s (i * w + c) b old)
              (applied k (R ((i * w + c) / w)) (λ j. byte_of s (j * w + (i * w + c) % w) b old))
              (le-ltb (i * w + c) (k * w) (let t : k * w ≤ i * w = mul-le k w i w l (omega arith) in omega arith))
              ∙ ap (λ (r : ℕ). applied k (R r) (λ j. byte_of s (j * w + (i * w + c) % w) b old)) (div-mul-add i w c hc)
              ∙ applied_data k (R i) (λ j. byte_of s (j * w + (i * w + c) % w) b old) (λ j. byte_of (w * s) j (c * s + b) old)
              (λ j hj. ap (λ (r : ℕ). byte_of s (j * w + r) b old) (mod-mul-add i w c hc) ∙ sym (byte_cell w s j c b old))
              ∙ sym (cond-false (ltb i k) (byte_of (w * s) i (c * s + b) old) (applied k (R i) (λ j. byte_of (w * s) j (c * s + b) old)) (le-ltb i k l))
        ]

-- the data as they were, and the shares behind them by the rows of the code
pub completed : (T : Table) → FirstLaw T → (k s : ℕ) → k ≤ 128 → (R : ℕ → ℕ → ℕ) (old new : List ℕ) → length new ≡ 2 * k * s → ((n : ℕ) → get_or new n 0 < 256)
    → ((i : ℕ) → i < 2 * k → (d : ℕ → ℕ) → applied k (R i) d ≡ symbol T k d i)
    → ((i : ℕ) → i < 2 * k → (b : ℕ) → b < s
    → byte_of s i b new ≡ cond (ltb i k) (byte_of s i b old) (applied k (R i) (λ j. byte_of s j b old)))
    → new ≡ codeword T k s (take (k * s) old)
completed T first k s hk R old new long small rows h =
    codeword_from_bytes T k s (take (k * s) old) new long
    (λ i hi b hb.
    at i hi b hb ∙ sym (applied_data k (T k i) (λ j. byte_of s j b (take (k * s) old)) (λ j. byte_of s j b old) (λ j hj. byte_take k s j b old hj hb)))
  where
    at : (i : ℕ) → i < 2 * k → (b : ℕ) → b < s → byte_of s i b new ≡ symbol T k (λ j. byte_of s j b old) i
    at i hi b hb =
        elim (cases_lt i k) [
          | inl l ↦
              let e : byte_of s i b new ≡ byte_of s i b old =
              h i hi b hb ∙ cond-true (ltb i k) (byte_of s i b old) (applied k (R i) (λ j. byte_of s j b old)) (lt-ltb i k l) in
              e ∙ sym (first k hk (λ j. byte_of s j b old) i l (subst (λ (x : ℕ). x < 256) e (small (i * s + b))))
          | inr l ↦
              h i hi b hb ∙ cond-false (ltb i k) (byte_of s i b old) (applied k (R i) (λ j. byte_of s j b old)) (le-ltb i k l)
              ∙ rows i hi (λ j. byte_of s j b old)
        ]
