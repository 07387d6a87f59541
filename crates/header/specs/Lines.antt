-- Cells and lines. A line is a row or a column, named by an axis and an index; it has a cell at each of its places.
use Rattle.std.specs.Prelude.{ℕ, cond, ◌==◌}
use Rattle.header.specs.declared.cell.Axis.{Axis}
use Rattle.header.specs.declared.cell.Axis.TheVariants.{Row, Column}

-- the axis that a byte of 0 or 1 names, and the byte that names an axis
abbrev pub axis_by : ℕ → Axis
axis_by a = cond (a == 0) Row Column

abbrev pub axis_byte : Axis → ℕ
axis_byte Row = 0
axis_byte Column = 1

-- the index of the line of cell (r, c) along an axis
abbrev pub line_of : Axis → ℕ → ℕ → ℕ
line_of Row r c = r
line_of Column r c = c

-- the place of the cell on it
abbrev pub place_on : Axis → ℕ → ℕ → ℕ
place_on Row r c = c
place_on Column r c = r

-- the row and the column of the cell at a place of the line with this index
abbrev pub row_at : Axis → ℕ → ℕ → ℕ
row_at Row i p = i
row_at Column i p = p

abbrev pub col_at : Axis → ℕ → ℕ → ℕ
col_at Row i p = p
col_at Column i p = i
