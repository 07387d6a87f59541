-- The compression function of SHA-256 (FIPS 180-4, sections 4 to 6), over eight words a to h and a block of sixteen words of 32 bits.
use Rattle.std.specs.Prelude.{ℕ, zero, suc, ◌+◌, ◌-◌, ◌*◌, ◌/◌, ◌%◌, ◌^◌, List, [], ◌∷◌, ◌++◌, bit_and, bit_or, bit_xor, slice_index}

-- ---- words of 32 bits

-- addition modulo 2^32
unfoldable pub add : ℕ → ℕ → ℕ
add x y = (x + y) % 2 ^ 32

-- n turned right by k bits
unfoldable pub rotr : ℕ → ℕ → ℕ
rotr n k = bit_or (n / 2 ^ (k % 32)) ((n * 2 ^ ((32 - k % 32) % 32)) % 2 ^ 32)

-- its complement
abbrev pub flip : ℕ → ℕ
flip n = 2 ^ 32 - 1 - n

-- ---- the six functions

-- x turned right by three amounts, and by two amounts and moved by a third, added bit by bit
abbrev pub big_sigma : ℕ → ℕ → ℕ → ℕ → ℕ
big_sigma i j k x = bit_xor (bit_xor (rotr x i) (rotr x j)) (rotr x k)

abbrev pub small_sigma : ℕ → ℕ → ℕ → ℕ → ℕ
small_sigma i j k x = bit_xor (bit_xor (rotr x i) (rotr x j)) (x / 2 ^ k)

abbrev pub big_sigma0 : ℕ → ℕ
big_sigma0 = big_sigma 2 13 22

abbrev pub big_sigma1 : ℕ → ℕ
big_sigma1 = big_sigma 6 11 25

abbrev pub small_sigma0 : ℕ → ℕ
small_sigma0 = small_sigma 7 18 3

abbrev pub small_sigma1 : ℕ → ℕ
small_sigma1 = small_sigma 17 19 10

-- of each bit: y's where x has 1, z's where it has 0
abbrev pub choose : ℕ → ℕ → ℕ → ℕ
choose x y z = bit_xor (bit_and x y) (bit_and (flip x) z)

-- of each bit: what two of the three have
abbrev pub majority : ℕ → ℕ → ℕ → ℕ
majority x y z = bit_xor (bit_xor (bit_and x y) (bit_and x z)) (bit_and y z)

-- ---- a round

-- the two sums T1 and T2, over the variables a to h
abbrev pub first : List ℕ → ℕ → ℕ → ℕ
first v k w = add (add (add (add (slice_index v 7) (big_sigma1 (slice_index v 4))) (choose (slice_index v 4) (slice_index v 5) (slice_index v 6))) k) w

abbrev pub second : List ℕ → ℕ
second v = add (big_sigma0 (slice_index v 0)) (majority (slice_index v 0) (slice_index v 1) (slice_index v 2))

-- the variables after a round with the constant k and the word w
abbrev pub round_of : List ℕ → ℕ → ℕ → List ℕ
round_of v k w = add (first v k w) (second v) ∷ slice_index v 0 ∷ slice_index v 1 ∷ slice_index v 2 ∷ add (slice_index v 3) (first v k w) ∷ slice_index v 4 ∷ slice_index v 5 ∷ slice_index v 6 ∷ []

-- ---- the schedule

-- word n of the schedule, from the words before it
abbrev pub next_word : ℕ → List ℕ → ℕ
next_word n ws = add (add (add (small_sigma1 (slice_index ws (n - 2))) (slice_index ws (n - 7))) (small_sigma0 (slice_index ws (n - 15)))) (slice_index ws (n - 16))

-- the block and k words more
unfoldable pub extended : ℕ → List ℕ → List ℕ
extended zero m = m
extended (suc k) m = extended k m ++ next_word (16 + k) (extended k m) ∷ []

-- all 64 words
abbrev pub scheduled : List ℕ → List ℕ
scheduled m = extended 48 m

-- ---- the rounds

-- the first 32 bits of the fractional parts of the cube roots of the first 64 primes
abbrev pub constants : List ℕ
constants =
    0x428a2f98 ∷ 0x71374491 ∷ 0xb5c0fbcf ∷ 0xe9b5dba5
    ∷ 0x3956c25b ∷ 0x59f111f1 ∷ 0x923f82a4 ∷ 0xab1c5ed5
    ∷ 0xd807aa98 ∷ 0x12835b01 ∷ 0x243185be ∷ 0x550c7dc3
    ∷ 0x72be5d74 ∷ 0x80deb1fe ∷ 0x9bdc06a7 ∷ 0xc19bf174
    ∷ 0xe49b69c1 ∷ 0xefbe4786 ∷ 0x0fc19dc6 ∷ 0x240ca1cc
    ∷ 0x2de92c6f ∷ 0x4a7484aa ∷ 0x5cb0a9dc ∷ 0x76f988da
    ∷ 0x983e5152 ∷ 0xa831c66d ∷ 0xb00327c8 ∷ 0xbf597fc7
    ∷ 0xc6e00bf3 ∷ 0xd5a79147 ∷ 0x06ca6351 ∷ 0x14292967
    ∷ 0x27b70a85 ∷ 0x2e1b2138 ∷ 0x4d2c6dfc ∷ 0x53380d13
    ∷ 0x650a7354 ∷ 0x766a0abb ∷ 0x81c2c92e ∷ 0x92722c85
    ∷ 0xa2bfe8a1 ∷ 0xa81a664b ∷ 0xc24b8b70 ∷ 0xc76c51a3
    ∷ 0xd192e819 ∷ 0xd6990624 ∷ 0xf40e3585 ∷ 0x106aa070
    ∷ 0x19a4c116 ∷ 0x1e376c08 ∷ 0x2748774c ∷ 0x34b0bcb5
    ∷ 0x391c0cb3 ∷ 0x4ed8aa4a ∷ 0x5b9cca4f ∷ 0x682e6ff3
    ∷ 0x748f82ee ∷ 0x78a5636f ∷ 0x84c87814 ∷ 0x8cc70208
    ∷ 0x90befffa ∷ 0xa4506ceb ∷ 0xbef9a3f7 ∷ 0xc67178f2
    ∷ []

-- the variables after n rounds
unfoldable pub up_to : List ℕ → List ℕ → ℕ → List ℕ
up_to ws v zero = v
up_to ws v (suc n) = round_of (up_to ws v n) (slice_index constants n) (slice_index ws n)

-- two lists of eight words added word by word
abbrev pub sums : List ℕ → List ℕ → List ℕ
sums v t =
    add (slice_index v 0) (slice_index t 0) ∷ add (slice_index v 1) (slice_index t 1) ∷ add (slice_index v 2) (slice_index t 2) ∷ add (slice_index v 3) (slice_index t 3)
    ∷ add (slice_index v 4) (slice_index t 4) ∷ add (slice_index v 5) (slice_index t 5) ∷ add (slice_index v 6) (slice_index t 6) ∷ add (slice_index v 7) (slice_index t 7)
    ∷ []

-- the hash value v after the block m
unfoldable pub compressed : List ℕ → List ℕ → List ℕ
compressed v m = sums v (up_to (scheduled m) v 64)

-- the hash value before the first block: the first 32 bits of the fractional parts of the square roots of the first eight primes
abbrev pub initial : List ℕ
initial = 0x6a09e667 ∷ 0xbb67ae85 ∷ 0x3c6ef372 ∷ 0xa54ff53a ∷ 0x510e527f ∷ 0x9b05688c ∷ 0x1f83d9ab ∷ 0x5be0cd19 ∷ []
