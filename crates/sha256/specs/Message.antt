-- SHA-256 of a message of bytes (FIPS 180-4, sections 5 and 6.2): padding, blocks, the hash value after each block, the digest.
use Rattle.std.specs.Prelude.{ℕ, zero, suc, ◌+◌, ◌-◌, ◌*◌, ◌/◌, ◌%◌, ◌^◌, List, [], ◌∷◌, ◌++◌, map, length, replicate, slice_index}
use Rattle.std.specs.List.{range_with_len, flat_map}
use Rattle.sha256.specs.Compression.{compressed, initial}

-- a word as four bytes, the highest first
abbrev pub word_bytes : ℕ → List ℕ
word_bytes x = x / 2 ^ 24 % 256 ∷ x / 2 ^ 16 % 256 ∷ x / 2 ^ 8 % 256 ∷ x % 256 ∷ []

-- a number of 64 bits as eight bytes, the highest first
abbrev pub long_bytes : ℕ → List ℕ
long_bytes x =
    x / 2 ^ 56 % 256 ∷ x / 2 ^ 48 % 256 ∷ x / 2 ^ 40 % 256 ∷ x / 2 ^ 32 % 256
    ∷ x / 2 ^ 24 % 256 ∷ x / 2 ^ 16 % 256 ∷ x / 2 ^ 8 % 256 ∷ x % 256 ∷ []

-- how many zero bytes the padding of n bytes has: with the byte 0x80 before them, 56 bytes of the last block are filled
abbrev pub zero_count : ℕ → ℕ
zero_count n = (119 - n % 64) % 64

-- what follows a message of n bytes: a bit 1, zeros, and the number of its bits in 64 bits
unfoldable pub padding : ℕ → List ℕ
padding n = 0x80 ∷ (replicate (zero_count n) 0 ++ long_bytes (8 * n))

abbrev pub padded : List ℕ → List ℕ
padded m = m ++ padding (length m)

-- the word whose four bytes begin at place q, the highest first
abbrev pub word_at : List ℕ → ℕ → ℕ
word_at p q = slice_index p q * 2 ^ 24 + slice_index p (q + 1) * 2 ^ 16 + slice_index p (q + 2) * 2 ^ 8 + slice_index p (q + 3)

-- the sixteen words of the block that begins at place q
unfoldable pub block_at : List ℕ → ℕ → List ℕ
block_at p q = map (λ t. word_at p (q + 4 * t)) (range_with_len 0 16)

-- the hash value after n blocks of the padded message p
unfoldable pub value_after : List ℕ → ℕ → List ℕ
value_after p zero = initial
value_after p (suc n) = compressed (value_after p n) (block_at p (64 * n))

-- the eight words of the digest
abbrev pub final_value : List ℕ → List ℕ
final_value m = value_after (padded m) (length (padded m) / 64)

-- the digest
unfoldable pub sha256 : List ℕ → List ℕ
sha256 m = flat_map word_bytes (final_value m)
