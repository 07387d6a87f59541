-- The lines of any square of w by w shares, w being 2k.
use Rattle.std.specs.Prelude.{ℕ, ◌*◌, List}
use Rattle.octets.specs.Shares.{byte_of, buffer}
use Rattle.codes.specs.Words.{at}
use Rattle.header.specs.declared.cell.Axis.{Axis}
use Rattle.header.specs.Lines.{row_at, col_at}
use Rattle.extension.specs.Square.{cell_byte}

-- the w shares of the line that an axis and an index name, one after the other: share p is that of the cell at place p
unfoldable pub line_shares : ℕ → ℕ → Axis → ℕ → List ℕ → List ℕ
line_shares k s axis i sq = buffer (2 * k) s (λ p b. cell_byte (2 * k) s (row_at axis i p) (col_at axis i p) b sq)

-- of a line, the k shares at the places ps
unfoldable pub picked : ℕ → ℕ → List ℕ → List ℕ → List ℕ
picked k s ps line = buffer k s (λ j b. byte_of s (at ps j) b line)
