-- The permutation Keccak-f[1600] (FIPS 202, section 3) over 25 lanes of 64 bits: lane (x, y) has the number x + 5y.
use Rattle.std.specs.Prelude.{ℕ, ◌+◌, ◌-◌, ◌*◌, ◌/◌, ◌%◌, ◌^◌, List, [], ◌∷◌, bit_and, bit_or, bit_xor, slice_index, slice_set}

-- a lane of 64 bits turned left
unfoldable pub rotl : ℕ → ℕ → ℕ
rotl n k = bit_or ((n * 2 ^ (k % 64)) % 2 ^ 64) (n / 2 ^ ((64 - k % 64) % 64))

-- its bits flipped
abbrev pub flip : ℕ → ℕ
flip n = 2 ^ 64 - 1 - n

-- lane (x, y); x and y are taken modulo 5
abbrev pub lane : List ℕ → ℕ → ℕ → ℕ
lane s x y = slice_index s (x % 5 + 5 * (y % 5))

-- the lanes of row y by a rule, before those of the rows behind it
abbrev pub row_by : (ℕ → ℕ → ℕ) → ℕ → List ℕ → List ℕ
row_by f y rest = f 0 y ∷ f 1 y ∷ f 2 y ∷ f 3 y ∷ f 4 y ∷ rest

-- all 25 of them, in the order of their numbers
abbrev pub grid : (ℕ → ℕ → ℕ) → List ℕ
grid f = row_by f 0 (row_by f 1 (row_by f 2 (row_by f 3 (row_by f 4 []))))

-- the sum of column x
abbrev pub parity : List ℕ → ℕ → ℕ
parity s x = bit_xor (bit_xor (bit_xor (bit_xor (lane s x 0) (lane s x 1)) (lane s x 2)) (lane s x 3)) (lane s x 4)

-- theta: to each lane, the sum of the column before it and that of the column behind it, turned by one
abbrev pub theta_of : List ℕ → List ℕ
theta_of s = grid (λ x y. bit_xor (lane s x y) (bit_xor (parity s (x + 4)) (rotl (parity s (x + 1)) 1)))

-- chi: to each lane, the complement of the next one and the one after it
abbrev pub chi_of : List ℕ → List ℕ
chi_of s = grid (λ x y. bit_xor (lane s x y) (bit_and (flip (lane s (x + 1) y)) (lane s (x + 2) y)))

-- iota: the round's constant, into lane (0, 0)
abbrev pub iota_of : List ℕ → ℕ → List ℕ
iota_of s rc = slice_set s 0 (bit_xor (slice_index s 0) rc)

-- by how many bits each lane is turned
abbrev pub offsets : List ℕ
offsets =
    0 ∷ 1 ∷ 62 ∷ 28 ∷ 27
    ∷ 36 ∷ 44 ∷ 6 ∷ 55 ∷ 20
    ∷ 3 ∷ 10 ∷ 43 ∷ 25 ∷ 39
    ∷ 41 ∷ 45 ∷ 15 ∷ 21 ∷ 8
    ∷ 18 ∷ 2 ∷ 61 ∷ 56 ∷ 14
    ∷ []

-- rho: each lane is turned by its own number of bits
abbrev pub rho_of : List ℕ → List ℕ
rho_of s = grid (λ x y. rotl (lane s x y) (lane offsets x y))

-- pi: lane (x, y) comes from (x + 3y, x)
abbrev pub pi_of : List ℕ → List ℕ
pi_of s = grid (λ x y. lane s (x + 3 * y) x)

-- one round
unfoldable pub round_of : List ℕ → ℕ → List ℕ
round_of s rc = iota_of (chi_of (pi_of (rho_of (theta_of s)))) rc

-- rounds with these constants, one after the other
abbrev pub rounds : List ℕ → List ℕ → List ℕ
rounds [] s = s
rounds (rc ∷ rcs) s = rounds rcs (round_of s rc)

-- the constants of the 24 rounds
abbrev pub constants : List ℕ
constants =
    0x0000000000000001 ∷ 0x0000000000008082 ∷ 0x800000000000808A ∷ 0x8000000080008000
    ∷ 0x000000000000808B ∷ 0x0000000080000001 ∷ 0x8000000080008081 ∷ 0x8000000000008009
    ∷ 0x000000000000008A ∷ 0x0000000000000088 ∷ 0x0000000080008009 ∷ 0x000000008000000A
    ∷ 0x000000008000808B ∷ 0x800000000000008B ∷ 0x8000000000008089 ∷ 0x8000000000008003
    ∷ 0x8000000000008002 ∷ 0x8000000000000080 ∷ 0x000000000000800A ∷ 0x800000008000000A
    ∷ 0x8000000080008081 ∷ 0x8000000000008080 ∷ 0x0000000080000001 ∷ 0x8000000080008008
    ∷ []

-- the permutation
unfoldable pub permuted : List ℕ → List ℕ
permuted s = rounds constants s
