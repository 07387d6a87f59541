-- Shares behind others, and shares of shares: a buffer of rows, each of which is w shares of s bytes, is also a buffer of shares.
use Rattle.std.proofs.Common.{◌≡◌, ℕ, zero, suc, ◌+◌, ◌-◌, ◌*◌, ◌/◌, ◌%◌, ◌<◌, ◌≤◌, List, ◌++◌, length, get_or, take, drop, sym, ap, ◌∙◌, not-suc-le-zero, mod-lt, zero-lt-suc, mul_assoc, div-lt_iff_lt-mul, add-mul, mul-zero, div-add-mod', arith, length-append, length-drop, length-take}
use borrow.Rule.Slice.PartMut.{put_mid}
use Rattle.std.proofs.lemmas.List.{get_or-drop, drop_all, append-nil}
use Rattle.std.proofs.lemmas.Nat.{mul-add-lt}
use Rattle.octets.specs.Shares.{share, byte_of}
use Rattle.octets.proofs.Shares.{share_inside, share_byte_lem, byte_take, same_from_bytes}

pub both_halves : (k s : ℕ) → 2 * k * s ≡ k * s + k * s
both_halves k s = ap (λ (n : ℕ). n * s) (let e : 2 * k ≡ k + k = omega arith in e) ∙ add-mul k k s

-- share i of the first k, as `&xs[0..k * s]` reads them
pub byte_front : (k s i b : ℕ) (xs : List ℕ) → i < k → b < s → byte_of s i b (take (k * s - 0) xs) ≡ byte_of s i b xs
byte_front k s i b xs hi hb =
    ap (λ (n : ℕ). byte_of s i b (take n xs)) (let e : k * s - 0 ≡ k * s = omega arith in e) ∙ byte_take k s i b xs hi hb

-- share i behind the first k
pub byte_drop : (k s i b : ℕ) (xs : List ℕ) → byte_of s i b (drop (k * s) xs) ≡ byte_of s (k + i) b xs
byte_drop k s i b xs =
    get_or-drop (k * s) xs (i * s + b) 0 ∙ ap (λ (m : ℕ). get_or xs m 0) (let e : (k + i) * s ≡ k * s + i * s = add-mul k i s in omega arith)

-- a write to all that is behind the first n, as `&mut xs[n..]` leaves it
pub put_rest : (n : ℕ) (xs ys : List ℕ) → put_mid n (length xs - n) xs ys ≡ take n xs ++ ys
put_rest n xs ys =
    ap (λ zs. take n xs ++ (ys ++ zs)) (drop_all (length xs - n) (drop n xs) (simp length-drop (omega arith))) ∙ ap (λ zs. take n xs ++ zs) (append-nil ys)

-- and one to a part keeps the length
pub put_length : (a k : ℕ) (xs ys : List ℕ) → a + k ≤ length xs → length ys ≡ k → length (put_mid a k xs ys) ≡ length xs
put_length a k xs ys h e = simp (length-append, length-take, length-drop) (omega arith)

-- cell c of row r is a share
pub cell_place : (w s r c b : ℕ) → r * (w * s) + (c * s + b) ≡ (r * w + c) * s + b
cell_place w s r c b =
    let e : (r * w + c) * s ≡ r * w * s + c * s = add-mul (r * w) c s in
    let f : r * w * s ≡ r * (w * s) = mul_assoc r w s in
    omega arith

pub byte_cell : (w s r c b : ℕ) (xs : List ℕ) → byte_of (w * s) r (c * s + b) xs ≡ byte_of s (r * w + c) b xs
byte_cell w s r c b xs = ap (λ (m : ℕ). get_or xs m 0) (cell_place w s r c b)

pub cell_inside : (w s c b : ℕ) → c < w → b < s → c * s + b < w * s
cell_inside w s c b hc hb = let l : c * s + s ≤ w * s = share_inside c w s hc in omega arith

-- share c of row r
pub byte_row : (w s r c b : ℕ) (xs : List ℕ) → c < w → b < s → byte_of s c b (share (w * s) r xs) ≡ byte_of s (r * w + c) b xs
byte_row w s r c b xs hc hb = share_byte_lem (w * s) r (c * s + b) xs (cell_inside w s c b hc hb) ∙ byte_cell w s r c b xs

pub cell_below : (n w r c : ℕ) → r < n → c < w → r * w + c < n * w
cell_below n w r c hr hc = let l : r * w + c < w * n = mul-add-lt r w c n hr hc in omega arith

-- what holds of every cell holds of every share
pub by_cells : (n w : ℕ) (P : ℕ → Type 0) → ((r c : ℕ) → r < n → c < w → P (r * w + c)) → (m : ℕ) → m < n * w → P m
by_cells n zero P h m l = absurd (not-suc-le-zero (let t : m < 0 = omega (arith, mul-zero n) in t))
by_cells n (suc w) P h m l =
    rw (sym (div-add-mod' m (suc w)))
    (h (m / suc w) (m % suc w) ((div-lt_iff_lt-mul (zero-lt-suc w)).1 l) (mod-lt m (zero-lt-suc w)))

-- two buffers of n rows of w shares are equal if each byte of each cell is
pub same_from_cells : (n w s : ℕ) (xs ys : List ℕ) → length xs ≡ n * w * s → length ys ≡ n * w * s
    → ((r c : ℕ) → r < n → c < w → (b : ℕ) → b < s → byte_of s (r * w + c) b xs ≡ byte_of s (r * w + c) b ys) → xs ≡ ys
same_from_cells n w s xs ys lx ly h =
    same_from_bytes (n * w) s xs ys lx ly (by_cells n w (λ m. (b : ℕ) → b < s → byte_of s m b xs ≡ byte_of s m b ys) h)
