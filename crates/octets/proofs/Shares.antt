-- Shares of a buffer, read, compared and written.
use Rattle.std.proofs.Common.{◌≡◌, ℕ, zero, suc, ◌+◌, ◌-◌, ◌*◌, ◌/◌, ◌%◌, ◌<◌, ◌≤◌, List, ◌++◌, length, get_or, take, drop, sym, ap, ◌∙◌, subst, ⊎_elim, not-suc-le-zero, mul-le-mul_right, mod-lt, zero-lt-suc, suc-mul, div-lt_iff_lt-mul, mul-zero, div-add-mod', zero-add, arith, length-drop, length-take}
use native.Mathlib.Decide.{ℕ_discrete}
use borrow.Rule.Slice.PartMut.{put_mid, post_of}
use Rattle.std.proofs.lemmas.List.{ext_get_or, get_or-take, get_or-drop, get_or_append_left, get_or-append_right, get_or_past, length-take-le}
use Rattle.std.proofs.lemmas.Bool.{cases_lt}
use Rattle.std.proofs.lemmas.Nat.{div-mul-add, mod-mul-add}
use Rattle.std.proofs.lemmas.List.FromFn.{length-map-range_with_len, get_or-map-range_with_len}
use Rattle.octets.specs.Shares.{share, byte_of, buffer}

-- share i of n lies inside
pub share_inside : (i n s : ℕ) → i < n → i * s + s ≤ n * s
share_inside i n s h = subst (λ (x : ℕ). x ≤ n * s) (suc-mul i s) (mul-le-mul_right s h)

pub share_end : (i n s l : ℕ) → i < n → l ≡ n * s → i * s + s ≤ l
share_end i n s l h e = subst (λ (x : ℕ). i * s + s ≤ x) (sym e) (share_inside i n s h)

pub share_byte_lem : (s i b : ℕ) (xs : List ℕ) → b < s → get_or (share s i xs) b 0 ≡ byte_of s i b xs
unfolding share
share_byte_lem s i b xs h = get_or-take s (drop (i * s) xs) b 0 h ∙ get_or-drop (i * s) xs b 0

pub share_length : (s i n : ℕ) (xs : List ℕ) → length xs ≡ n * s → i < n → length (share s i xs) ≡ s
unfolding share
share_length s i n xs long h = let l : i * s + s ≤ n * s = share_inside i n s h in simp (length-take, length-drop) (omega arith)

-- two shares are equal if their bytes are, and have equal bytes if they are equal
pub share_from_bytes : (s i j m n : ℕ) (xs ys : List ℕ) → length xs ≡ m * s → length ys ≡ n * s → i < m → j < n
    → ((b : ℕ) → b < s → byte_of s i b xs ≡ byte_of s j b ys) → share s i xs ≡ share s j ys
share_from_bytes s i j m n xs ys lx ly hi hj h =
    ext_get_or 0 (share s i xs) (share s j ys) (share_length s i m xs lx hi ∙ sym (share_length s j n ys ly hj))
    (λ b hb.
    let lt : b < s = subst (λ (x : ℕ). b < x) (share_length s i m xs lx hi) hb in
    share_byte_lem s i b xs lt ∙ h b lt ∙ sym (share_byte_lem s j b ys lt))

pub bytes_from_share : (s i j b : ℕ) (xs ys : List ℕ) → b < s → share s i xs ≡ share s j ys → byte_of s i b xs ≡ byte_of s j b ys
bytes_from_share s i j b xs ys h e = sym (share_byte_lem s i b xs h) ∙ ap (λ zs. get_or zs b 0) e ∙ share_byte_lem s j b ys h

-- two buffers of n shares are equal if each byte of each share is, or each share
pub same_from_bytes : (n s : ℕ) (xs ys : List ℕ) → length xs ≡ n * s → length ys ≡ n * s
    → ((i : ℕ) → i < n → (b : ℕ) → b < s → byte_of s i b xs ≡ byte_of s i b ys) → xs ≡ ys
same_from_bytes n zero xs ys lx ly h =
    ext_get_or 0 xs ys (lx ∙ sym ly) (λ m l. absurd (not-suc-le-zero (subst (λ (x : ℕ). m < x) (lx ∙ mul-zero n) l)))
same_from_bytes n (suc s) xs ys lx ly h =
    ext_get_or 0 xs ys (lx ∙ sym ly)
    (λ m l.
    let i : m / suc s < n = (div-lt_iff_lt-mul (zero-lt-suc s)).1 (subst (λ (x : ℕ). m < x) lx l) in
    let e : m / suc s * suc s + m % suc s ≡ m = div-add-mod' m (suc s) in
    sym (ap (λ (x : ℕ). get_or xs x 0) e) ∙ h (m / suc s) i (m % suc s) (mod-lt m (zero-lt-suc s)) ∙ ap (λ (x : ℕ). get_or ys x 0) e)

pub same_from_shares : (n s : ℕ) (xs ys : List ℕ) → length xs ≡ n * s → length ys ≡ n * s
    → ((i : ℕ) → i < n → share s i xs ≡ share s i ys) → xs ≡ ys
same_from_shares n s xs ys lx ly h =
    same_from_bytes n s xs ys lx ly (λ i hi b hb. bytes_from_share s i i b xs ys hb (h i hi))

-- a buffer by its bytes
pub buffer_length : (n s : ℕ) (f : ℕ → ℕ → ℕ) → length (buffer n s f) ≡ n * s
unfolding buffer
buffer_length n s f = length-map-range_with_len (λ m. f (m / s) (m % s)) 0 (n * s)

pub buffer_byte : (n s : ℕ) (f : ℕ → ℕ → ℕ) (i b : ℕ) → i < n → b < s → byte_of s i b (buffer n s f) ≡ f i b
unfolding buffer
buffer_byte n s f i b hi hb =
    let l : i * s + s ≤ n * s = share_inside i n s hi in
    get_or-map-range_with_len (λ m. f (m / s) (m % s)) 0 (n * s) (i * s + b) (i * s + b) 0 (omega arith) (zero-add (i * s + b))
    ∙ ap (λ (m : ℕ). f ((i * s + b) / s) m) (mod-mul-add i s b hb) ∙ ap (λ (m : ℕ). f m b) (div-mul-add i s b hb)

pub buffer_from_bytes : (n s : ℕ) (f : ℕ → ℕ → ℕ) (xs : List ℕ) → length xs ≡ n * s
    → ((i : ℕ) → i < n → (b : ℕ) → b < s → byte_of s i b xs ≡ f i b) → xs ≡ buffer n s f
buffer_from_bytes n s f xs long h =
    same_from_bytes n s xs (buffer n s f) long (buffer_length n s f) (λ i hi b hb. h i hi b hb ∙ sym (buffer_byte n s f i b hi hb))

-- a bound on all its bytes, and so on what stands past its end
pub buffer_below : (n s l : ℕ) (f : ℕ → ℕ → ℕ) → 0 < l → ((i b : ℕ) → f i b < l) → (m : ℕ) → get_or (buffer n s f) m 0 < l
unfolding buffer
buffer_below n s l f some h m = ⊎_elim inside past (cases_lt m (n * s))
  where
    inside : m < n * s → get_or (buffer n s f) m 0 < l
    inside lt =
        subst (λ (x : ℕ). x < l) (sym (get_or-map-range_with_len (λ m. f (m / s) (m % s)) 0 (n * s) m m 0 lt (zero-add m))) (h (m / s) (m % s))

    past : n * s ≤ m → get_or (buffer n s f) m 0 < l
    past le = subst (λ (x : ℕ). x < l) (sym (get_or_past (buffer n s f) m 0 (subst (λ (x : ℕ). x ≤ m) (sym (buffer_length n s f)) le))) some

-- the first k shares
pub byte_take : (k s i b : ℕ) (xs : List ℕ) → i < k → b < s → byte_of s i b (take (k * s) xs) ≡ byte_of s i b xs
byte_take k s i b xs hi hb =
    let l : i * s + s ≤ k * s = share_inside i k s hi in get_or-take (k * s) xs (i * s + b) 0 (omega arith)

-- share i as `&xs[i * s..i * s + s]` reads it
pub share_read : (s i : ℕ) (xs : List ℕ) → take (i * s + s - i * s) (drop (i * s) xs) ≡ share s i xs
unfolding share
share_read s i xs = let e : i * s + s - i * s ≡ s = omega arith in ap (λ (n : ℕ). take n (drop (i * s) xs)) e

-- a write to share i of n, as `&mut xs[i * s..i * s + s]` leaves it: that share, and the others
module _ (s i n k : ℕ) (xs ys : List ℕ) (long : length xs ≡ n * s) (within : i < n) (fits : length ys ≡ s) where
  front_long : length (take (i * s) xs) ≡ i * s
  front_long = let l : i * s + s ≤ n * s = share_inside i n s within in length-take-le (i * s) xs (omega arith)

  pub byte_put_here : (b : ℕ) → b < s → byte_of s i b (put_mid (i * s) k xs ys) ≡ get_or ys b 0
  byte_put_here b h =
      let e : i * s + b - i * s ≡ b = omega arith in
      get_or-append_right (take (i * s) xs) (ys ++ post_of (i * s) k xs) (i * s) (i * s + b) 0 front_long (omega arith)
      ∙ ap (λ (m : ℕ). get_or (ys ++ post_of (i * s) k xs) m 0) e ∙ get_or_append_left ys (post_of (i * s) k xs) 0 b (omega arith)

  pub byte_put_below : (j b : ℕ) → j < i → b < s → byte_of s j b (put_mid (i * s) k xs ys) ≡ byte_of s j b xs
  byte_put_below j b h hb =
      let l : j * s + s ≤ i * s = share_inside j i s h in
      let f : length (take (i * s) xs) ≡ i * s = front_long in
      get_or_append_left (take (i * s) xs) (ys ++ post_of (i * s) k xs) 0 (j * s + b) (omega arith) ∙ get_or-take (i * s) xs (j * s + b) 0 (omega arith)

  -- a loop that writes one share after the other, byte b of share j being f j b
  pub put_more : (f : ℕ → ℕ → ℕ) → ((j : ℕ) → j < i → (b : ℕ) → b < s → byte_of s j b xs ≡ f j b) → ((b : ℕ) → b < s → get_or ys b 0 ≡ f i b)
      → (j : ℕ) → j < i + 1 → (b : ℕ) → b < s → byte_of s j b (put_mid (i * s) k xs ys) ≡ f j b
  put_more f below here j h b hb =
      elim (ℕ_discrete j i) [
        | yes e ↦ subst (λ (m : ℕ). byte_of s m b (put_mid (i * s) k xs ys) ≡ f m b) (sym e) (byte_put_here b hb ∙ here b hb)
        | no d ↦ byte_put_below j b (omega arith) hb ∙ below j (omega arith) b hb
      ]
