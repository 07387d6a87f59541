-- Padding, and blocks cut from a message.
use Rattle.std.proofs.Common.{◌≡◌, ℕ, ◌+◌, ◌*◌, ◌/◌, ◌%◌, ◌^◌, ◌<◌, ◌≤◌, List, [], ◌++◌, map, length, get_or, take, set, replicate, sym, refl, ap, ◌∙◌, add-one, arith, length-set}
use lib.ListN.{length-replicate}
use borrow.Rule.Slice.PartMut.{put_mid}
use Rattle.std.specs.List.{range_with_len}
use Rattle.std.proofs.lemmas.Slice.{take-put_mid}
use Rattle.std.proofs.lemmas.List.FromFn.{fill_by_all, get_or-map-range_with_len, length-map-range_with_len}
use Rattle.std.specs.Simd.{first_chunks}
use Rattle.octets.specs.Window.{window}
use Rattle.octets.proofs.Windows.{chunk_byte, window_at}
use Rattle.octets.proofs.Zeros.{zeros_behind}
use Rattle.sha256.specs.Compression.{compressed, initial}
use Rattle.sha256.specs.Message.{word_at, block_at, padding, zero_count, long_bytes, value_after}

-- what `pad` writes
pub pads : (len n : ℕ) (xs : List ℕ) → xs ≡ replicate n 0 → 72 ≤ n
    → take (zero_count len + 9) (put_mid (zero_count len + 1) 8 (set xs 0 128) (long_bytes (8 * len))) ≡ padding len
unfolding padding
pads len n xs e l =
    take-put_mid (zero_count len + 1) 8 (set xs 0 128) (long_bytes (8 * len)) (zero_count len + 9) (omega arith) (simp (e, length-set, length-replicate) (omega arith))
    ∙ ap (λ zs. take (zero_count len + 1) (set zs 0 128) ++ long_bytes (8 * len)) e
    ∙ ap (λ zs. zs ++ long_bytes (8 * len)) (zeros_behind n (zero_count len) 128 (omega arith))

-- ---- blocks

-- a window's words are the message's
block_window : (p : List ℕ) (start : ℕ) → block_at (window p start 64) 0 ≡ block_at p start
unfolding block_at
block_window p start =
    fill_by_all (λ t. word_at p (start + 4 * t)) (map (λ t. word_at w (0 + 4 * t)) (range_with_len 0 16)) 16 0 (length-map-range_with_len (λ t. word_at w (0 + 4 * t)) 0 16)
    (λ k h. get_or-map-range_with_len (λ t. word_at w (0 + 4 * t)) 0 16 k k 0 h (omega arith) ∙ same k h)
  where
    w : List ℕ
    w = window p start 64

    at : (k i : ℕ) → k < 16 → i < 4 → get_or w (0 + 4 * k + i) 0 ≡ get_or p (start + 4 * k + i) 0
    at k i h l = window_at p start 64 (0 + 4 * k + i) (omega arith) ∙ ap (λ j. get_or p j 0) (omega arith)

    same : (k : ℕ) → k < 16 → word_at w (0 + 4 * k) ≡ word_at p (start + 4 * k)
    same k h =
        let a : get_or w (0 + 4 * k) 0 ≡ get_or p (start + 4 * k) 0 = window_at p start 64 (0 + 4 * k) (omega arith) ∙ ap (λ j. get_or p j 0) (omega arith) in
        let b = at k 1 h (omega arith) in
        let c = at k 2 h (omega arith) in
        let d = at k 3 h (omega arith) in
        cc

pub block_next : (p block : List ℕ) (start : ℕ) → block ≡ window p start 64 → block_at block 0 ≡ block_at p start
block_next p block start e = ap (λ b. block_at b 0) e ∙ block_window p start

-- the words of a block
pub words_all : (block m : List ℕ) → length m ≡ 16 → ((k : ℕ) → k < 16 → get_or m k 0 ≡ word_at block (0 + 4 * k)) → m ≡ block_at block 0
unfolding block_at
words_all block m l h = fill_by_all (λ t. word_at block (0 + 4 * t)) m 16 0 l h

-- a block has sixteen words
pub block_length : (p : List ℕ) (q : ℕ) → length (block_at p q) ≡ 16
unfolding block_at
block_length p q = refl

block_word : (p : List ℕ) (t : ℕ) → t < 16 → word_at p (4 * t) ≡ get_or (block_at p 0) t 0
unfolding block_at
block_word p t h =
    ap (word_at p) (omega arith) ∙ sym (get_or-map-range_with_len (λ t. word_at p (0 + 4 * t)) 0 16 t t 0 h (omega arith))

-- word t is chunk t of the block, read as a number
pub chunk_word : (p : List ℕ) (cs : List (List ℕ)) (t : ℕ) → length p ≡ 64 → cs ≡ first_chunks 4 (length p / 4) p → t < 16
    → word_at (get_or cs t []) 0 ≡ get_or (block_at p 0) t 0
chunk_word p cs t l e h = ap (λ c. word_at (get_or c t []) 0) e ∙ same ∙ block_word p t h
  where
    byte : (j : ℕ) → j < 4 → get_or (get_or (first_chunks 4 (length p / 4) p) t []) j 0 ≡ get_or p (4 * t + j) 0
    byte j m = chunk_byte 4 (length p / 4) t j p (omega arith) (omega arith) m

    same : word_at (get_or (first_chunks 4 (length p / 4) p) t []) 0 ≡ word_at p (4 * t)
    same =
        let zero : 4 * t + 0 ≡ 4 * t = omega arith in
        let a = byte 0 (omega arith) ∙ ap (λ i. get_or p i 0) zero in
        let b = byte 1 (omega arith) in
        let c = byte 2 (omega arith) in
        let d = byte 3 (omega arith) in
        cc

pub value_none : (p : List ℕ) → initial ≡ value_after p 0
unfolding value_after
value_none p = refl

pub value_more : (p v u : List ℕ) (n : ℕ) → v ≡ value_after p n → u ≡ compressed v (block_at p (64 * n)) → u ≡ value_after p (n + 1)
unfolding value_after
value_more p v u n e h = h ∙ ap (λ x. compressed x (block_at p (64 * n))) e ∙ ap (value_after p) (sym (add-one n))

-- the highest bits of a number do not reach its last eight bytes
pub long_wraps : (x : ℕ) → long_bytes (x % 2 ^ 64) ≡ long_bytes x
long_wraps x =
    let a : x % 2 ^ 64 / 2 ^ 56 % 256 ≡ x / 2 ^ 56 % 256 = omega arith in
    let b : x % 2 ^ 64 / 2 ^ 48 % 256 ≡ x / 2 ^ 48 % 256 = omega arith in
    let c : x % 2 ^ 64 / 2 ^ 40 % 256 ≡ x / 2 ^ 40 % 256 = omega arith in
    let d : x % 2 ^ 64 / 2 ^ 32 % 256 ≡ x / 2 ^ 32 % 256 = omega arith in
    let e : x % 2 ^ 64 / 2 ^ 24 % 256 ≡ x / 2 ^ 24 % 256 = omega arith in
    let f : x % 2 ^ 64 / 2 ^ 16 % 256 ≡ x / 2 ^ 16 % 256 = omega arith in
    let g : x % 2 ^ 64 / 2 ^ 8 % 256 ≡ x / 2 ^ 8 % 256 = omega arith in
    let h : x % 2 ^ 64 % 256 ≡ x % 256 = omega arith in
    cc
