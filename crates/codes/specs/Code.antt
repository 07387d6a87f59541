-- Codes over the field of bytes, for single bytes. The meaning of a code is, for each k, a table of 2k rows and k columns: symbol i of
-- the codeword of k bytes is row i applied to them.
use Rattle.std.specs.Prelude.{◌≡◌, ℕ, ◌*◌, ◌<◌, ◌≤◌, cond, ◌≢◌, List, [], ◌∷◌, length, ◌==◌, bit_xor, nat_lt, slice_index}
use Rattle.galois.specs.Field.{mul, inv, div}
use Rattle.codes.specs.Over.{over, except}

-- k, the row i, the column j
abbrev pub Table : Type 0
Table = ℕ → ℕ → ℕ → ℕ

-- a row of k elements applied to k bytes: the sum of the products
unfoldable pub applied : ℕ → (ℕ → ℕ) → (ℕ → ℕ) → ℕ
applied k row d = over bit_xor 0 k (λ j. mul (row j) (d j))

-- symbol i of the codeword of the k bytes d
abbrev pub symbol : Table → ℕ → (ℕ → ℕ) → ℕ → ℕ
symbol T k d i = applied k (T k i) d

-- ---- the two codes

-- the product over m below k, other than j, of (i xor p m) / (p j xor p m): the value at i of the polynomial of degree below k that is
-- 1 at p j and 0 at the others of k places p
unfoldable pub lagrange : ℕ → (ℕ → ℕ) → ℕ → ℕ → ℕ
lagrange k p i j = over mul 1 k (except 1 j (λ m. div (bit_xor i (p m)) (bit_xor (p j) (p m))))

-- symbol i is P i, where P is the polynomial of degree below k with P j equal to data byte j (`PolynomialLaw` says it in these words)
unfoldable pub polynomial : Table
polynomial k i j = lagrange k (λ m. m) i j

-- the data below k; from k on, the sum of data byte j divided by i xor j (`CauchyLaw` says it in these words)
unfoldable pub cauchy : Table
cauchy k i j = cond (nat_lt i k) (cond (i == j) 1 0) (inv (bit_xor i j))

-- ---- the two laws

-- k places of a codeword, no two alike
pub record Places (k : ℕ) (p : ℕ → ℕ) : Type 0 where
  pub below : (j : ℕ) → j < k → p j < 2 * k
  pub apart : (i j : ℕ) → i < k → j < k → i ≢ j → p i ≢ p j

-- the first k symbols are the data
abbrev pub FirstLaw : Table → Type 0
FirstLaw T = (k : ℕ) → k ≤ 128 → (d : ℕ → ℕ) (i : ℕ) → i < k → d i < 256 → symbol T k d i ≡ d i

-- two codewords of one k that agree at k places are equal
abbrev pub SecondLaw : Table → Type 0
SecondLaw T =
    (k : ℕ) → k ≤ 128 → (d e : ℕ → ℕ) (p : ℕ → ℕ) → Places k p
    → ((j : ℕ) → j < k → symbol T k d (p j) ≡ symbol T k e (p j))
    → (i : ℕ) → i < 2 * k → symbol T k d i ≡ symbol T k e i

-- ---- the weights of a recovery

-- c is the codeword through the bytes s at the places p: the codeword of its own first k symbols, with s j at p j. By the second
-- law there is no other
pub record Meets (T : Table) (k : ℕ) (p s c : ℕ → ℕ) : Type 0 where
  pub coded : (i : ℕ) → i < 2 * k → symbol T k c i ≡ c i
  pub given : (j : ℕ) → j < k → c (p j) ≡ s j

-- for k, the places p, the symbol i and the share at p j: its weight in symbol i
abbrev pub Weight : Type 0
Weight = ℕ → (ℕ → ℕ) → ℕ → ℕ → ℕ

-- the sums of the shares by the weights W are the codeword through them
abbrev pub WeightLaw : Table → Weight → Type 0
WeightLaw T W =
    (k : ℕ) → k ≤ 128 → (p s : ℕ → ℕ) → Places k p → ((j : ℕ) → j < k → s j < 256)
    → Meets T k p s (λ i. applied k (W k p i) s)

-- both codes' words are a polynomial's values with symbol i scaled by a factor v i that is not 0; then these are their weights
unfoldable pub scaled_weight : (ℕ → ℕ → ℕ) → Weight
scaled_weight v k p i j = mul (mul (v k i) (inv (v k (p j)))) (lagrange k p i j)

-- the factors of the polynomial code
abbrev pub plain_scale : ℕ → ℕ → ℕ
plain_scale k i = 1

-- those of the Cauchy code: the product over m below k, other than i, of 1 / (i xor m)
unfoldable pub cauchy_scale : ℕ → ℕ → ℕ
cauchy_scale k i = over mul 1 k (except 1 i (λ m. inv (bit_xor i m)))

-- ---- the codes in the subject's words

-- the value at x of the polynomial with these coefficients, the constant one first
unfoldable pub value : List ℕ → ℕ → ℕ
value [] x = 0
value (a ∷ more) x = bit_xor a (mul x (value more x))

-- P is a polynomial of degree below k, given by its k coefficients, which are bytes, with P j equal to data byte j
pub record Interpolates (k : ℕ) (d : ℕ → ℕ) (P : List ℕ) : Type 0 where
  pub degree : length P ≡ k
  pub bytes : (n : ℕ) → slice_index P n < 256
  pub values : (j : ℕ) → j < k → value P j ≡ d j

-- of the polynomial code: there is such a P, and symbol i is P i for every such P
pub record PolynomialLaw : Type 0 where
  pub some : (k : ℕ) → k ≤ 128 → (d : ℕ → ℕ) → ((j : ℕ) → j < k → d j < 256) → (P : List ℕ) × Interpolates k d P
  pub every : (k : ℕ) → k ≤ 128 → (d : ℕ → ℕ) (P : List ℕ) → Interpolates k d P
      → (i : ℕ) → i < 2 * k → symbol polynomial k d i ≡ value P i

-- of the Cauchy code: the data, and from k on the sum over j of data byte j divided by i xor j
pub record CauchyLaw : Type 0 where
  pub front : (k : ℕ) → k ≤ 128 → (d : ℕ → ℕ) (i : ℕ) → i < k → d i < 256 → symbol cauchy k d i ≡ d i
  pub sums : (k : ℕ) (d : ℕ → ℕ) (i : ℕ) → k ≤ i → symbol cauchy k d i ≡ over bit_xor 0 k (λ j. div (d j) (bit_xor i j))
