-- Padding, and blocks absorbed from a message.
use Rattle.std.proofs.Common.{◌≡◌, ℕ, zero, suc, ◌+◌, ◌-◌, ◌*◌, ◌/◌, ◌<◌, ◌≤◌, cond, eqb, ltb, List, [], map, length, get_or, take, set, replicate, sym, refl, ap, ◌∙◌, inl, inr, add-one, arith}
use lib.Bits.{bit_or, bit_xor}
use Rattle.std.specs.List.{range_with_len}
use Rattle.std.proofs.lemmas.List.FromFn.{fill_by_all, get_or-map-range_with_len, length-map-range_with_len}
use Rattle.std.proofs.lemmas.Bool.{cases_eq, cases_lt, le-ltb, eq-eqb, ne_eqb, cond-true, cond-false}
use Rattle.std.proofs.lemmas.List.{get_or-replicate}
use Rattle.std.specs.Simd.{first_chunks}
use Rattle.octets.specs.Window.{window}
use Rattle.octets.proofs.Windows.{chunk_byte, window_at}
use Rattle.octets.proofs.Zeros.{zeros_behind, zeros_between}
use Rattle.sha3.specs.declared.permutation.Row.{Row}
use Rattle.sha3.specs.declared.permutation.State.{State}
use Rattle.sha3.specs.Keccak.{permuted}
use Rattle.sha3.specs.Lanes.{lanes, row_at, xor_row}
use Rattle.sha3.specs.Sponge.{rate, pad_count, padding, lane_at, absorbed, state_after}

-- a window's lanes are the message's
lane_window : (p : List ℕ) (start i : ℕ) → i < 17 → lane_at (window p start 136) (0 + 8 * i) ≡ lane_at p (start + 8 * i)
unfolding lane_at
lane_window p start i h =
    let w : List ℕ = window p start 136 in
    let at : (j : ℕ) → j < 8 → get_or w (0 + 8 * i + j) 0 ≡ get_or p (start + 8 * i + j) 0 =
    λ j l. window_at p start 136 (0 + 8 * i + j) (omega arith) ∙ ap (λ k. get_or p k 0) (omega arith) in
    let a : get_or w (0 + 8 * i) 0 ≡ get_or p (start + 8 * i) 0 = window_at p start 136 (0 + 8 * i) (omega arith) ∙ ap (λ k. get_or p k 0) (omega arith) in
    let b = at 1 (omega arith) in
    let c = at 2 (omega arith) in
    let d = at 3 (omega arith) in
    let e = at 4 (omega arith) in
    let f = at 5 (omega arith) in
    let g = at 6 (omega arith) in
    let h = at 7 (omega arith) in
    cc

-- lane i is chunk i of the block, read as a number
pub chunk_lane : (p : List ℕ) (cs : List (List ℕ)) (i : ℕ) → length p ≡ 136 → cs ≡ first_chunks 8 (length p / 8) p → i < 17
    → lane_at (get_or cs i []) 0 ≡ lane_at p (8 * i)
unfolding lane_at
chunk_lane p cs i l e h = ap (λ c. lane_at (get_or c i []) 0) e ∙ same
  where
    byte : (j : ℕ) → j < 8 → get_or (get_or (first_chunks 8 (length p / 8) p) i []) j 0 ≡ get_or p (8 * i + j) 0
    byte j m = chunk_byte 8 (length p / 8) i j p (omega arith) (omega arith) m

    same : lane_at (get_or (first_chunks 8 (length p / 8) p) i []) 0 ≡ lane_at p (8 * i)
    same =
        let zero : 8 * i + 0 ≡ 8 * i = omega arith in
        let a = byte 0 (omega arith) ∙ ap (λ j. get_or p j 0) zero in
        let b = byte 1 (omega arith) in
        let c = byte 2 (omega arith) in
        let d = byte 3 (omega arith) in
        let e = byte 4 (omega arith) in
        let f = byte 5 (omega arith) in
        let g = byte 6 (omega arith) in
        let h = byte 7 (omega arith) in
        cc

pub absorbed_window : (s p : List ℕ) (start : ℕ) → absorbed s (window p start 136) 0 ≡ absorbed s p start
unfolding absorbed
absorbed_window s p start = fill_by_all (lanes_of p start) (map (lanes_of (window p start 136) 0) (range_with_len 0 25)) 25 0 (length-map-range_with_len (lanes_of (window p start 136) 0) 0 25)
    (λ k h. get_or-map-range_with_len (lanes_of (window p start 136) 0) 0 25 k k 0 h (omega arith) ∙ same k)
  where
    lanes_of : List ℕ → ℕ → ℕ → ℕ
    lanes_of x q i = cond (ltb i 17) (bit_xor (get_or s i 0) (lane_at x (q + 8 * i))) (get_or s i 0)

    same : (k : ℕ) → lanes_of (window p start 136) 0 k ≡ lanes_of p start k
    same k =
        elim (cases_lt k 17) [
          | inl h ↦ ap (λ x. cond (ltb k 17) (bit_xor (get_or s k 0) x) (get_or s k 0)) (lane_window p start k h)
          | inr h ↦ let f = le-ltb k 17 h in cc
        ]

-- a state of these rows and lanes
abbrev pub state : State → Row → Row → Row → ℕ → ℕ → List ℕ
state s x y z v w =
    lanes (record { r0 = x; r1 = y; r2 = z; r3 = record { a = bit_xor s.r3.a v; b = bit_xor s.r3.b w; c = s.r3.c; d = s.r3.d; e = s.r3.e }; r4 = s.r4 })

-- the block's rows, added to the state's
pub absorbed_rows : (s : State) (p : List ℕ) (x y z : Row) (v w : ℕ)
    → x ≡ xor_row s.r0 (row_at p 0) → y ≡ xor_row s.r1 (row_at p 5) → z ≡ xor_row s.r2 (row_at p 10) → v ≡ lane_at p 120 → w ≡ lane_at p 128
    → state s x y z v w ≡ absorbed (lanes s) p 0
unfolding absorbed
absorbed_rows s p x y z v w e f g h i =
    ap (λ t. state s t y z v w) e ∙ ap (λ t. state s x' t z v w) f ∙ ap (λ t. state s x' y' t v w) g ∙ ap (λ t. state s x' y' z' t w) h
    ∙ ap (state s x' y' z' (lane_at p 120)) i
  where
    x' : Row
    x' = xor_row s.r0 (row_at p 0)

    y' : Row
    y' = xor_row s.r1 (row_at p 5)

    z' : Row
    z' = xor_row s.r2 (row_at p 10)

-- ---- padding

pub pads_one : (len n : ℕ) (xs : List ℕ) → xs ≡ replicate n 0 → 1 ≤ n → pad_count len ≡ 1 → take (pad_count len) (set xs 0 134) ≡ padding len
unfolding padding
pads_one len n xs e l o =
    ap (λ ys. take (pad_count len) (set ys 0 134)) e
    ∙ ap (λ c. take c (set (replicate n 0) 0 134)) o
    ∙ zeros_behind n 0 134 (omega arith)
    ∙ sym (cond-true (eqb (pad_count len) 1) _ _ (eq-eqb (pad_count len) 1 o))

pub pads_more : (len n : ℕ) (xs : List ℕ) → xs ≡ replicate n 0 → 136 ≤ n → (pad_count len ≡ 1 → ⊥) → take (pad_count len) (set (set xs 0 6) (pad_count len - 1) 128) ≡ padding len
unfolding padding
pads_more len n xs e l o =
    zeros_between n (pad_count len) 6 128 xs e (omega arith) (omega arith)
    ∙ sym (cond-false (eqb (pad_count len) 1) _ _ (ne_eqb (pad_count len) 1 o))

-- what `pad` writes, where the first byte may be the last one too
pub pads : (len n : ℕ) (xs : List ℕ) → xs ≡ replicate n 0 → 136 ≤ n
    → take (pad_count len) (set (set xs 0 6) (pad_count len - 1) (bit_or (get_or (set xs 0 6) (pad_count len - 1) 0) 128)) ≡ padding len
pads len zero xs e l = absurd (omega arith)
pads len (suc n) xs e l = ap (λ ys. take k (laid ys (k - 1))) e ∙ elim (cases_eq k 1) [
  | inl o ↦ let z : k - 1 ≡ 0 = omega arith in ap (λ j. take k (laid zeros j)) z ∙ pads_one len (suc n) zeros refl (omega arith) o
  | inr o ↦
      let two : k - 1 ≡ suc (k - 2) = omega arith in
      let none : get_or (set zeros 0 6) (k - 1) 0 ≡ 0 = ap (λ j. get_or (set zeros 0 6) j 0) two ∙ get_or-replicate n (k - 2) 0 0 (omega arith) in
      ap (λ b. take k (set (set zeros 0 6) (k - 1) (bit_or b 128))) none ∙ pads_more len (suc n) zeros refl l o
]
  where
    k : ℕ
    k = pad_count len

    zeros : List ℕ
    zeros = replicate (suc n) 0

    laid : List ℕ → ℕ → List ℕ
    laid ys j = set (set ys 0 6) j (bit_or (get_or (set ys 0 6) j 0) 128)

-- ---- the state after each block

pub state_none : (p : List ℕ) → replicate 25 0 ≡ state_after p 0
unfolding state_after
state_none p = refl

pub state_more : (p s t : List ℕ) (n : ℕ) → s ≡ state_after p n → t ≡ permuted (absorbed s p (rate * n)) → t ≡ state_after p (n + 1)
unfolding state_after
state_more p s t n e h = h ∙ ap (λ x. permuted (absorbed x p (rate * n))) e ∙ ap (state_after p) (sym (add-one n))

pub absorbed_next : (s p block t : List ℕ) (start : ℕ) → block ≡ window p start 136 → t ≡ absorbed s block 0 → t ≡ absorbed s p start
absorbed_next s p block t start e h = h ∙ ap (λ b. absorbed s b 0) e ∙ absorbed_window s p start
