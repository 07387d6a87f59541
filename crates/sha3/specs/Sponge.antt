-- SHA3-256 of a message of bytes (FIPS 202, sections 4 to 6): padding, blocks, the state after each block, the digest. A bit string of
-- the standard is here a list of bytes, the first bit of each byte the lowest.
use Rattle.std.specs.Prelude.{ℕ, zero, suc, ◌+◌, ◌-◌, ◌*◌, ◌/◌, ◌%◌, ◌^◌, cond, List, [], ◌∷◌, ◌++◌, map, length, replicate, ◌==◌, bit_xor, nat_lt, slice_index}
use Rattle.std.specs.List.{range_with_len, flat_map}
use Rattle.sha3.specs.Keccak.{permuted}

-- the bytes of a block, which are seventeen lanes
abbrev pub rate : ℕ
rate = 136

-- how many bytes follow a message of n bytes
abbrev pub pad_count : ℕ → ℕ
pad_count n = rate - n % rate

-- what follows a message of n bytes: the bits 01 that tell SHA-3 from the other uses of Keccak, then a bit 1, zeros and a last bit 1,
-- up to the end of the block; all in one byte where only one is left
unfoldable pub padding : ℕ → List ℕ
padding n = cond (pad_count n == 1) (0x86 ∷ []) (0x06 ∷ (replicate (pad_count n - 2) 0 ++ 0x80 ∷ []))

abbrev pub padded : List ℕ → List ℕ
padded m = m ++ padding (length m)

-- the lane whose eight bytes begin at place q, the lowest first
unfoldable pub lane_at : List ℕ → ℕ → ℕ
lane_at p q =
    slice_index p q + slice_index p (q + 1) * 2 ^ 8 + slice_index p (q + 2) * 2 ^ 16 + slice_index p (q + 3) * 2 ^ 24
    + slice_index p (q + 4) * 2 ^ 32 + slice_index p (q + 5) * 2 ^ 40 + slice_index p (q + 6) * 2 ^ 48 + slice_index p (q + 7) * 2 ^ 56

-- a lane as eight bytes, the lowest first
abbrev pub lane_bytes : ℕ → List ℕ
lane_bytes x =
    x % 256 ∷ x / 2 ^ 8 % 256 ∷ x / 2 ^ 16 % 256 ∷ x / 2 ^ 24 % 256
    ∷ x / 2 ^ 32 % 256 ∷ x / 2 ^ 40 % 256 ∷ x / 2 ^ 48 % 256 ∷ x / 2 ^ 56 % 256 ∷ []

-- the state with the block that begins at place q of p added: its lanes to the first seventeen
unfoldable pub absorbed : List ℕ → List ℕ → ℕ → List ℕ
absorbed s p q = map (λ i. cond (nat_lt i 17) (bit_xor (slice_index s i) (lane_at p (q + 8 * i))) (slice_index s i)) (range_with_len 0 25)

-- the state after n blocks of the padded message p
unfoldable pub state_after : List ℕ → ℕ → List ℕ
state_after p zero = replicate 25 0
state_after p (suc n) = permuted (absorbed (state_after p n) p (rate * n))

-- the state at the end
abbrev pub final_state : List ℕ → List ℕ
final_state m = state_after (padded m) (length (padded m) / rate)

-- the bytes of the first four lanes
abbrev pub squeezed : List ℕ → List ℕ
squeezed s = flat_map lane_bytes (slice_index s 0 ∷ slice_index s 1 ∷ slice_index s 2 ∷ slice_index s 3 ∷ [])

-- the digest: those of the last state
unfoldable pub sha3 : List ℕ → List ℕ
sha3 m = squeezed (final_state m)
