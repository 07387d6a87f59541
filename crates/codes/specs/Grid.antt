-- The extension of a k by k square of bytes to 2k by 2k, by any code.
use Rattle.std.specs.Prelude.{◌≡◌, ℕ, List, [], ◌∷◌}
use Rattle.codes.specs.Code.{Table, symbol, polynomial}
use Rattle.codes.specs.Words.{at}

-- the k rows are extended, then all 2k columns: the cell at row r and column c
abbrev pub extended : Table → ℕ → (ℕ → ℕ → ℕ) → ℕ → ℕ → ℕ
extended T k d r c = symbol T k (λ i. symbol T k (d i) c) r

-- the k columns extended, then all 2k rows, give the same; so every row is a codeword, as every column is
abbrev pub GridLaw : Type 0
GridLaw = (T : Table) (k : ℕ) (d : ℕ → ℕ → ℕ) (r c : ℕ) → extended T k d r c ≡ symbol T k (λ j. symbol T k (λ i. d i j) r) c

-- the square 1 2 / 3 4
abbrev square : ℕ → ℕ → ℕ
square i = at (row_of i)
  where
    row_of : ℕ → List ℕ
    row_of ℕ.zero = 1 ∷ 2 ∷ []
    row_of (ℕ.suc i) = 3 ∷ 4 ∷ []

-- row r of its extension by the polynomial code is a, b, c, d
abbrev pub Row : ℕ → ℕ → ℕ → ℕ → ℕ → Type 0
Row r a b c d =
    (extended polynomial 2 square r 0 ≡ a) × (extended polynomial 2 square r 1 ≡ b) × (extended polynomial 2 square r 2 ≡ c) × (extended polynomial 2 square r 3 ≡ d)

abbrev pub SquareValues : Type 0
SquareValues = Row 0 1 2 7 4 × Row 1 3 4 13 10 × Row 2 5 14 19 24 × Row 3 7 8 25 22
