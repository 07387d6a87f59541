-- Rows of digests inside a longer row, and the halves of a range of a square's rows.
use Rattle.std.proofs.Common.{◌≡◌, ℕ, suc, ◌+◌, ◌-◌, ◌*◌, ◌^◌, ◌<◌, ◌≤◌, List, ◌++◌, length, take, drop, sym, ap, ◌∙◌, mul_assoc, add-mul, pow-suc, mul-add, arith, length-append, length-drop, length-take, inl, inr}
use Rattle.std.proofs.lemmas.Nat.{mul-le, pow_pos}
use Rattle.std.proofs.lemmas.List.{append_assoc, drop-append-le, drop-drop, drop-take, drop_at, length-take-le, take-append-le, take-take}
use Rattle.std.proofs.lemmas.Bool.{cond-true, le-leb, cases_eq}
use borrow.Rule.Slice.PartMut.{put_mid}
use Rattle.octets.specs.Splice.{over}
use Rattle.octets.proofs.Cells.{put_rest}
use Rattle.hash.specs.Digests.{digest_len}
use Rattle.merkle.specs.Climb.{Node, slot}
use Rattle.header.proofs.Numbers.{on_row, on_column}
use Rattle.commitment.specs.Roots.{line_leaf}
use Rattle.commitment.specs.Values.{value_leaf}
use Rattle.layout.proofs.Rows.{entry_here, entry_before}
use Rattle.layout.specs.Answers.{has_entry, put_at}

-- a digest that is written where there is such an entry
pub put_in : (i : ℕ) (d xs : List ℕ) → digest_len * i + digest_len ≤ length xs → put_at i d xs ≡ over (digest_len * i) d xs
put_in i d xs h = cond-true (has_entry i (length xs)) _ _ (le-leb (digest_len * i + digest_len) (length xs) h)

-- an entry of the first of two rows that are joined, and one of the second, where the first has w entries
pub slot_front : (j : ℕ) (xs ys : List ℕ) → digest_len * j + digest_len ≤ length xs → slot j (xs ++ ys) ≡ slot j xs
slot_front j xs ys h =
    ap (take digest_len) (drop-append-le (digest_len * j) xs ys (omega arith))
    ∙ take-append-le digest_len (drop (digest_len * j) xs) ys (simp length-drop (omega arith))

pub slot_behind : (w j : ℕ) (xs ys : List ℕ) → length xs ≡ digest_len * w → slot (w + j) (xs ++ ys) ≡ slot j ys
slot_behind w j xs ys e =
    let at : digest_len * (w + j) ≡ digest_len * w + digest_len * j = omega arith in
    ap (take digest_len)
    (ap (λ n. drop n (xs ++ ys)) at ∙ sym (drop-drop (digest_len * j) (digest_len * w) (xs ++ ys)) ∙ ap (drop (digest_len * j)) (drop_at xs ys (digest_len * w) e))

pub slot_take : (j n : ℕ) (xs : List ℕ) → digest_len * j + digest_len ≤ n → slot j (take n xs) ≡ slot j xs
slot_take j n xs h =
    let at : n ≡ digest_len * j + (n - digest_len * j) = omega arith in
    ap (λ m. take digest_len (drop (digest_len * j) (take m xs))) at
    ∙ ap (take digest_len) (drop-take (digest_len * j) (n - digest_len * j) xs)
    ∙ take-take digest_len (n - digest_len * j) (drop (digest_len * j) xs) (omega arith)

-- an entry of a row that was written to the front of a buffer
pub slot_copied : (j n : ℕ) (row xs ys : List ℕ) → xs ≡ row → digest_len * j + digest_len ≤ n → digest_len * j + digest_len ≤ length row → slot j (take n (xs ++ ys)) ≡ slot j row
slot_copied j n row xs ys e h l = slot_take j n (xs ++ ys) h ∙ ap (λ z. slot j (z ++ ys)) e ∙ slot_front j row ys l

-- all that is behind the first w entries is written
module _ (w j : ℕ) (xs ys : List ℕ) (long : digest_len * w ≤ length xs) where
  pub rest_front : j < w → slot j (put_mid (digest_len * w) (length xs - digest_len * w) xs ys) ≡ slot j xs
  rest_front l =
      ap (slot j) (put_rest (digest_len * w) xs ys)
      ∙ slot_front j (take (digest_len * w) xs) ys (omega (arith, length-take-le (digest_len * w) xs long))
      ∙ slot_take j (digest_len * w) xs (omega arith)

  pub rest_behind : slot (w + j) (put_mid (digest_len * w) (length xs - digest_len * w) xs ys) ≡ slot j ys
  rest_behind =
      ap (slot (w + j)) (put_rest (digest_len * w) xs ys) ∙ slot_behind w j (take (digest_len * w) xs) ys (length-take-le (digest_len * w) xs long)

-- one entry more from `base` on
pub band_more : (g : ℕ → Node) (base i : ℕ) (xs ys : List ℕ) → ys ≡ over (digest_len * (base + i)) (g i) xs → length (g i) ≡ digest_len
    → digest_len * (base + i) + digest_len ≤ length xs
    → ((j : ℕ) → j < i → slot (base + j) xs ≡ g j) → (j : ℕ) → j < i + 1 → slot (base + j) ys ≡ g j
band_more g base i xs ys e size within before j l =
    ap (slot (base + j)) e
    ∙ elim (cases_eq j i) [
      | inl s ↦ ap (λ k. slot (base + k) (over (digest_len * (base + i)) (g i) xs)) s ∙ entry_here (base + i) (g i) xs size within ∙ ap g (sym s)
      | inr d ↦ entry_before (base + i) (g i) xs size within (base + j) (omega arith) ∙ before j (omega arith)
    ]

-- and what is before `base` stays
pub band_kept : (base i : ℕ) (d xs ys : List ℕ) → ys ≡ over (digest_len * (base + i)) d xs → length d ≡ digest_len
    → digest_len * (base + i) + digest_len ≤ length xs → (m : ℕ) → m < base → slot m ys ≡ slot m xs
band_kept base i d xs ys e size within m l = ap (slot m) e ∙ entry_before (base + i) d xs size within m (omega arith)

-- what is behind an entry stays when it is written
pub entry_after : (i : ℕ) (d xs : List ℕ) → length d ≡ digest_len → digest_len * i + digest_len ≤ length xs
    → (j : ℕ) → i < j → slot j (over (digest_len * i) d xs) ≡ slot j xs
entry_after i d xs size within j l =
    let k : ℕ = digest_len * j - (digest_len * i + digest_len) in
    let at : digest_len * j ≡ digest_len * i + length d + (digest_len * j - (digest_len * i + digest_len)) = omega arith in
    let front : length (take (digest_len * i) xs ++ d) ≡ digest_len * i + length d =
    simp (length-append, length-take) (omega arith) in
    ap (take digest_len)
    (ap (λ n. drop n (over (digest_len * i) d xs)) at
    ∙ sym (drop-drop k (digest_len * i + length d) (over (digest_len * i) d xs))
    ∙ ap (drop k)
    (ap (drop (digest_len * i + length d)) (sym (append_assoc (take (digest_len * i) xs) d (drop (digest_len * i + length d) xs)))
    ∙ drop_at (take (digest_len * i) xs ++ d) (drop (digest_len * i + length d) xs) (digest_len * i + length d) front)
    ∙ drop-drop k (digest_len * i + length d) xs
    ∙ ap (λ n. drop n xs) (sym at))

-- ---- ranges of 2^l rows, the i-th of them

pub half_power : (l : ℕ) → 0 < l → 2 ^ l ≡ 2 ^ (l - 1) * 2
half_power l h = ap (λ k. 2 ^ k) (let e : l ≡ suc (l - 1) = omega arith in e) ∙ pow-suc 2 (l - 1)

-- where the first half begins and ends, and where the second ends
pub record Halves (i l : ℕ) : Type 0 where
  pub begins : 2 * i * 2 ^ (l - 1) ≡ i * 2 ^ l
  pub middle : (2 * i + 1) * 2 ^ (l - 1) ≤ (i + 1) * 2 ^ l
  pub ends : (2 * i + 1 + 1) * 2 ^ (l - 1) ≡ (i + 1) * 2 ^ l

pub halves : (i l : ℕ) → 0 < l → Halves i l
halves i l h =
    let q : 2 ^ l ≡ 2 ^ (l - 1) * 2 = half_power l h in
    let a : i * 2 ^ l ≡ i * 2 ^ (l - 1) * 2 = ap (λ n. i * n) q ∙ sym (mul_assoc i (2 ^ (l - 1)) 2) in
    let b : 2 * i * 2 ^ (l - 1) ≡ 2 * (i * 2 ^ (l - 1)) = mul_assoc 2 i (2 ^ (l - 1)) in
    let c : (i + 1) * 2 ^ l ≡ i * 2 ^ l + 1 * 2 ^ l = add-mul i 1 (2 ^ l) in
    let d : (2 * i + 1) * 2 ^ (l - 1) ≡ 2 * i * 2 ^ (l - 1) + 1 * 2 ^ (l - 1) = add-mul (2 * i) 1 (2 ^ (l - 1)) in
    let e : (2 * i + 1 + 1) * 2 ^ (l - 1) ≡ (2 * i + 1) * 2 ^ (l - 1) + 1 * 2 ^ (l - 1) = add-mul (2 * i + 1) 1 (2 ^ (l - 1)) in
    record { begins = omega arith; middle = omega arith; ends = omega arith }

-- such a range has a row
pub range_row : (i l w : ℕ) → (i + 1) * 2 ^ l ≤ w → i < w
range_row i l w h =
    let p : 0 < 2 ^ l = pow_pos l in
    let a : (i + 1) * 1 ≤ (i + 1) * 2 ^ l = mul-le (i + 1) 1 (i + 1) (2 ^ l) (omega arith) (omega arith) in
    omega arith

-- the rows of digests below a level
pub rows_below : (w l : ℕ) → 0 < l → w * l ≡ w * (l - 1) + w
rows_below w l h =
    let e : l ≡ l - 1 + 1 = omega arith in
    let m : w * (l - 1 + 1) ≡ w * (l - 1) + w * 1 = mul-add w (l - 1) 1 in
    ap (λ k. w * k) e ∙ m ∙ (let t : w * (l - 1) + w * 1 ≡ w * (l - 1) + w = omega arith in t)

-- a range of one row
pub one_row : (i l : ℕ) → l ≡ 0 → i * 2 ^ l ≡ i
one_row i l e = ap (λ k. i * 2 ^ k) e ∙ (let t : i * 1 ≡ i = omega arith in t)

-- place j of row i is place i of column j
pub leaf_turned : (f : List ℕ → List ℕ) (w s : ℕ) (sq : List ℕ) (i j : ℕ) → i < w → line_leaf f w s sq i j ≡ line_leaf f w s sq (w + j) i
leaf_turned f w s sq i j h =
    ap (value_leaf f s sq)
    (on_row w i j h ∙ (let t : i * w + j ≡ i * w + (w + j - w) = omega arith in t) ∙ sym (on_column w (w + j) i (omega arith)))
