-- A block of bytes as a window on a longer message: the block's byte j is the message's byte start + j.
use Rattle.std.specs.Prelude.{ℕ, ◌+◌, ◌-◌, cond, ◌&&◌, List, map, length, nat_le, nat_lt, slice_index}
use Rattle.std.specs.List.{range_with_len}

-- the n bytes of m from place `start` on, 0 where m has none
unfoldable pub window : List ℕ → ℕ → ℕ → List ℕ
window m start n = map (λ j. slice_index m (start + j)) (range_with_len 0 n)

-- byte j of a block once the bytes of a part from place `from` on are written over it from place `at` on
abbrev pub overlaid_at : List ℕ → ℕ → List ℕ → ℕ → ℕ → ℕ
overlaid_at block at part from j =
    cond (nat_le at j && nat_lt (from + (j - at)) (length part)) (slice_index part (from + (j - at))) (slice_index block j)

-- byte j of a block that begins at place `start` of a message, once a part that begins at place `begin` of it is laid over the block
abbrev pub laid_at : List ℕ → ℕ → ℕ → List ℕ → ℕ → ℕ
laid_at block start begin part j =
    cond (nat_le begin (start + j) && nat_lt (start + j) (begin + length part)) (slice_index part (start + j - begin)) (slice_index block j)

-- that block
unfoldable pub laid : List ℕ → ℕ → ℕ → List ℕ → List ℕ
laid block start begin part = map (laid_at block start begin part) (range_with_len 0 (length block))
