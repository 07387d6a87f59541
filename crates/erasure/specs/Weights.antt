-- The weights of a recovery, in a table: for k places, 2k rows of k.
use Rattle.std.specs.Prelude.{◌≡◌, ℕ, ◌*◌, ◌<◌, Bool, cond, ◌&&◌, List, length, ◌==◌, bit_xor}
use Rattle.octets.specs.Shares.{byte_of, buffer}
use Rattle.galois.specs.Field.{mul, inv}
use Rattle.codes.specs.Over.{over, except}
use Rattle.codes.specs.Code.{Table, Weight, applied, symbol}
use Rattle.codes.specs.Words.{at}
use Rattle.erasure.specs.Limits.{ok_width}
use Rattle.erasure.specs.Places.{rising_below}

-- row i, one after the other, has the weights of symbol i
unfoldable pub weight_table : Weight → ℕ → List ℕ → List ℕ
weight_table W k ps = buffer (2 * k) k (λ i j. W k (at ps) i j)

-- these places have weights, and a buffer of n bytes is as long as their table
unfoldable pub weighable : List ℕ → ℕ → Bool
weighable ps n = ok_width (length ps) && (rising_below (2 * length ps) ps && n == 2 * length ps * length ps)

-- what a buffer holds once the weights are written into it: where they have no place there, what it held
abbrev pub weighed : Weight → List ℕ → List ℕ → List ℕ
weighed W ps old = cond (weighable ps (length old)) (weight_table W (length ps) ps) old

-- rows of a table that have the same sums as those of the code: row i gives symbol i
pub record CodeRows (T : Table) (k : ℕ) (rows : List ℕ) : Type 0 where
  pub long : length rows ≡ 2 * k * k
  pub sums : (i : ℕ) → i < 2 * k → (d : ℕ → ℕ) → applied k (λ j. byte_of k i j rows) d ≡ symbol T k d i

-- ---- how they are worked out: each is a factor of the symbol by one of the share by 1 / (i xor p j)

-- the product over all k places of i xor p m
unfoldable pub numerator : ℕ → (ℕ → ℕ) → ℕ → ℕ
numerator k p i = over mul 1 k (λ m. bit_xor i (p m))

-- the product over all places but p j of 1 / (p j xor p m)
unfoldable pub denominator : ℕ → (ℕ → ℕ) → ℕ → ℕ
denominator k p j = over mul 1 k (except 1 j (λ m. inv (bit_xor (p j) (p m))))

-- from both factors, the weight of the share at place q in symbol i: at its own place it is 1
abbrev pub weight_by : ℕ → ℕ → ℕ → ℕ → ℕ
weight_by of_symbol of_share i q = cond (q == i) 1 (mul (mul of_symbol (inv (bit_xor i q))) of_share)
