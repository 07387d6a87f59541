-- What holds of extended squares.
use Rattle.std.specs.Prelude.{◌≡◌, ℕ, ◌*◌, ◌<◌, true, List, [], ◌∷◌, length}
use Rattle.codes.specs.Code.{Table, polynomial}
use Rattle.codes.specs.Words.{IsWord, Through}
use Rattle.erasure.specs.Places.{rising_below}
use Rattle.erasure.specs.Calls.{NoOther}
use Rattle.header.specs.declared.cell.Axis.{Axis}
use Rattle.extension.specs.Square.{extension, quadrant}
use Rattle.extension.specs.Lines.{line_shares, picked}

-- every row and every column is a codeword
abbrev pub LinesCoded : Table → ℕ → ℕ → List ℕ → Type 0
LinesCoded T k s sq = (axis : Axis) (i : ℕ) → i < 2 * k → IsWord T k s (line_shares k s axis i sq)

-- a line is the codeword through its own shares at the places ps, and the only one
pub record OneThrough (T : Table) (k s : ℕ) (ps line : List ℕ) : Type 0 where
  pub through : Through T k s ps (picked k s ps line) line
  pub only : NoOther T k s ps (picked k s ps line) line

-- that is so of every line and any k strictly increasing places
abbrev pub LinesFromAny : Table → ℕ → ℕ → List ℕ → Type 0
LinesFromAny T k s sq =
    (axis : Axis) (i : ℕ) → i < 2 * k → (ps : List ℕ) → length ps ≡ k → rising_below (2 * k) ps ≡ true
    → OneThrough T k s ps (line_shares k s axis i sq)

-- of any table, a square all of whose lines are codewords is the extension of its own first quadrant
abbrev pub CodedIsExtension : Type 0
CodedIsExtension =
    (T : Table) (k s : ℕ) (sq : List ℕ) → length sq ≡ 2 * k * (2 * k) * s → LinesCoded T k s sq → sq ≡ extension T k s (quadrant k s sq)

-- by the polynomial code, in shares of one byte, the rows 1 2 / 3 4 extend to these four
abbrev pub SquareValues : Type 0
SquareValues =
    extension polynomial 2 1 (1 ∷ 2 ∷ 3 ∷ 4 ∷ [])
    ≡ 1 ∷ 2 ∷ 7 ∷ 4 ∷ 3 ∷ 4 ∷ 13 ∷ 10 ∷ 5 ∷ 14 ∷ 19 ∷ 24 ∷ 7 ∷ 8 ∷ 25 ∷ 22 ∷ []
