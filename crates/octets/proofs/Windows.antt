-- Blocks as windows on a message.
use Rattle.std.proofs.Common.{◌≡◌, ℕ, zero, suc, ◌+◌, ◌-◌, ◌*◌, ◌<◌, ◌≤◌, ◌⊎◌, List, [], ◌++◌, map, length, get_or, take, drop, replicate, sym, ap, ◌∙◌, inl, inr, mul-zero, arith, get_or-take, length-drop}
use lib.ListN.{length-replicate}
use Rattle.std.proofs.lemmas.Bool.{cases_lt}
use borrow.Rule.Slice.PartMut.{put_mid}
use Rattle.std.specs.List.{range_with_len}
use Rattle.std.proofs.lemmas.List.{places, drop-drop, get_or-drop, length-take-le, get_or_append_left, get_or-append_right, get_or_past, get_or-replicate}
use Rattle.std.proofs.lemmas.List.FromFn.{fill_by_all, get_or-map-range_with_len, length-map-range_with_len}
use Rattle.std.proofs.lemmas.Bool.Decides.{nat_tests}
use Rattle.std.specs.Simd.{first_chunks}
use Rattle.octets.specs.Window.{window, overlaid_at, laid_at, laid}

-- the part that is written over has the bytes of the other part, and what lies before and behind it stays
pub overlaid_at_lem : (block part : List ℕ) (at from n k j : ℕ)
    → at + n ≤ length block → from + n ≤ length part → (length block ≤ at + n) ⊎ (length part ≤ from + n) → k ≡ n → j < length block
    → get_or (put_mid at k block (take n (drop from part))) j 0 ≡ overlaid_at block at part from j
overlaid_at_lem block part at from n k j fits has ends e h = grind (arith, places, nat_tests)

module _ (block after part : List ℕ) (start begin : ℕ) (long : length after ≡ length block) where
  -- a block written at `at` from `from` is one that a part of a message is laid over
  pub laid_from : (at from : ℕ) → (at + start ≡ from + begin) → (at ≡ 0) ⊎ (from ≡ 0)
      → ((j : ℕ) → j < length block → get_or after j 0 ≡ overlaid_at block at part from j)
      → after ≡ laid block start begin part
  unfolding laid
  laid_from at from e one h = fill_by_all (laid_at block start begin part) after (length block) 0 long (λ j l. let o = h j l in grind (arith, nat_tests))

  -- one that the part does not reach
  pub laid_none : (length block + start ≤ begin) ⊎ (begin + length part ≤ start) → after ≡ block → after ≡ laid block start begin part
  unfolding laid
  laid_none far e = fill_by_all (laid_at block start begin part) after (length block) 0 long (λ j l. let o = ap (λ xs. get_or xs j 0) e in grind (arith, nat_tests))

-- ---- windows

pub window_at : (m : List ℕ) (start n j : ℕ) → j < n → get_or (window m start n) j 0 ≡ get_or m (start + j) 0
unfolding window
window_at m start n j h = get_or-map-range_with_len (λ i. get_or m (start + i) 0) 0 n j j 0 h (omega arith)

pub window_length : (m : List ℕ) (start n : ℕ) → length (window m start n) ≡ n
unfolding window
window_length m start n = length-map-range_with_len (λ i. get_or m (start + i) 0) 0 n

-- a list that has the bytes of a window is that window
pub window_by : (m xs : List ℕ) (start n : ℕ) → length xs ≡ n → ((j : ℕ) → j < n → get_or xs j 0 ≡ get_or m (start + j) 0) → xs ≡ window m start n
unfolding window
window_by m xs start n long h = fill_by_all (λ i. get_or m (start + i) 0) xs n 0 long h

pub window_none : (start n : ℕ) → replicate n 0 ≡ window [] start n
window_none start n = window_by [] (replicate n 0) start n (length-replicate n 0) (λ j h. get_or-replicate n j 0 0 h)

-- the next part, laid over a window on the parts before it
pub window_more : (m part : List ℕ) (start n begin : ℕ) → begin ≡ length m → laid (window m start n) start begin part ≡ window (m ++ part) start n
unfolding laid
window_more m part start n begin b =
    window_by (m ++ part) (map (laid_at (window m start n) start begin part) (range_with_len 0 (length (window m start n)))) start n
    (length-map-range_with_len (laid_at (window m start n) start begin part) 0 (length (window m start n)) ∙ window_length m start n)
    (λ j h.
    let l : j < length (window m start n) = omega (arith, window_length m start n) in
    get_or-map-range_with_len (laid_at (window m start n) start begin part) 0 (length (window m start n)) j j 0 l (omega arith)
    ∙ at j h)
  where
    at : (j : ℕ) → j < n → laid_at (window m start n) start begin part j ≡ get_or (m ++ part) (start + j) 0
    at j h =
        let w = window_at m start n j h in
        elim (cases_lt (start + j) (length m)) [
          | inl l ↦ let e = get_or_append_left m part 0 (start + j) l in grind (arith, nat_tests)
          | inr l ↦
              let e = get_or-append_right m part begin (start + j) 0 (sym b) (omega arith) in
              let p = get_or_past m (start + j) 0 l in
              elim (cases_lt (start + j) (begin + length part)) [
                | inl k ↦ grind (arith, nat_tests)
                | inr k ↦ let q = get_or_past part (start + j - begin) 0 (omega arith) in grind (arith, nat_tests)
              ]
        ]

pub window_next : (m part before after : List ℕ) (start n begin : ℕ) → begin ≡ length m → before ≡ window m start n → after ≡ laid before start begin part → after ≡ window (m ++ part) start n
window_next m part before after start n begin b e h = h ∙ ap (λ xs. laid xs start begin part) e ∙ window_more m part start n begin b

-- ---- chunks

chunk_at : (n k i : ℕ) (xs : List ℕ) → i < k → get_or (first_chunks n k xs) i [] ≡ take n (drop (n * i) xs)
chunk_at n zero i xs h = absurd (omega arith)
chunk_at n (suc k) zero xs h = ap (λ q. take n (drop q xs)) (sym (mul-zero n))
chunk_at n (suc k) (suc i) xs h =
    let more : n + n * i ≡ n * suc i = grind arith in
    chunk_at n k i (drop n xs) (omega arith) ∙ ap (take n) (drop-drop (n * i) n xs) ∙ ap (λ q. take n (drop q xs)) more

-- a chunk is a window
chunk_window : (n k i : ℕ) (xs : List ℕ) → i < k → n * i + n ≤ length xs → get_or (first_chunks n k xs) i [] ≡ window xs (n * i) n
chunk_window n k i xs h l =
    chunk_at n k i xs h
    ∙ window_by xs (take n (drop (n * i) xs)) (n * i) n (length-take-le n (drop (n * i) xs) (simp length-drop (omega arith)))
    (λ j m. get_or-take n (drop (n * i) xs) j 0 m ∙ get_or-drop (n * i) xs j 0)

-- and its bytes are the list's
pub chunk_byte : (n k i j : ℕ) (xs : List ℕ) → i < k → n * i + n ≤ length xs → j < n → get_or (get_or (first_chunks n k xs) i []) j 0 ≡ get_or xs (n * i + j) 0
chunk_byte n k i j xs h l m = ap (λ ys. get_or ys j 0) (chunk_window n k i xs h l) ∙ window_at xs (n * i) n j m
