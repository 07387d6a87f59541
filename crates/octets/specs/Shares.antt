-- Shares: a buffer of shares holds them one after the other, each of s bytes.
use Rattle.std.specs.Prelude.{ℕ, ◌+◌, ◌*◌, ◌/◌, ◌%◌, List, map, take, drop, slice_index}
use Rattle.std.specs.List.{range_with_len}

-- share i of a buffer
unfoldable pub share : ℕ → ℕ → List ℕ → List ℕ
share s i xs = take s (drop (i * s) xs)

-- byte b of share i
abbrev pub byte_of : ℕ → ℕ → ℕ → List ℕ → ℕ
byte_of s i b xs = slice_index xs (i * s + b)

-- the buffer of n shares whose byte b of share i is f i b: byte m of it is byte m % s of share m / s
unfoldable pub buffer : ℕ → ℕ → (ℕ → ℕ → ℕ) → List ℕ
buffer n s f = map (λ m. f (m / s) (m % s)) (range_with_len 0 (n * s))
