-- The evidence that a square and its roots give for a cell.
use Rattle.std.specs.Prelude.{◌≡◌, ℕ, ◌+◌, Bool, true, cond, not, ◌&&◌, List, ◌++◌, Ok, Err, Result, ◌==◌}
use Rattle.octets.specs.Outcome.{Refused, plain}
use Rattle.octets.specs.Shares.{share}
use Rattle.hash.specs.Digests.{digest_len}
use Rattle.merkle.specs.Layout.{path_of}
use Rattle.header.specs.declared.cell.Axis.{Axis}
use Rattle.header.specs.Fields.{Fields}
use Rattle.header.specs.Lines.{line_of, place_on}
use Rattle.header.specs.Sizes.{depth, square_len, roots_len, path_len, has_cell, cell_number, line_number}
use Rattle.commitment.specs.Values.{value_tree}
use Rattle.commitment.specs.Roots.{line_tree, roots_of, data_root_of}
use Rattle.evidence.specs.Evidence.{verifies}

-- the share of cell (r, c)
abbrev pub cell_share : Fields → List ℕ → ℕ → ℕ → List ℕ
cell_share h sq r c = share h.s (cell_number h r c) sq

-- the path of cell (r, c) along an axis: that of its place in the tree of its line, and then that of the line in the data tree over
-- some roots
unfoldable pub evidence_path : (List ℕ → List ℕ) → Fields → List ℕ → List ℕ → Axis → ℕ → ℕ → List ℕ
evidence_path f h sq roots axis r c =
    path_of (depth h) (place_on axis r c) (line_tree f h sq (line_number h axis (line_of axis r c)))
    ++ path_of (depth h + 1) (line_number h axis (line_of axis r c)) (value_tree f (depth h + 1) digest_len roots)

-- a square, roots and a path of the block's lengths
abbrev pub block_fits : Fields → ℕ → ℕ → ℕ → Bool
block_fits h n m p = n == square_len h && (m == roots_len h && p == path_len h)

-- what writing evidence answers, under a hash of this kind: refused by 13 for another hash kind, by 15 for a cell outside, by 3 for a
-- square, roots or a buffer of wrong length
abbrev pub evidence_outcome : ℕ → Fields → ℕ → ℕ → ℕ → ℕ → ℕ → Result (Unit {0}) Refused
evidence_outcome kind h r c n m p =
    cond (not (h.hash_kind == kind)) (Err (plain 13)) (cond (not (has_cell h r c)) (Err (plain 15)) (cond (not (block_fits h n m p)) (Err (plain 3)) (Ok tt)))

-- of a square's own roots, and under the header that they commit to, the path that was written verifies with the cell's share
abbrev pub Proves : (List ℕ → List ℕ) → Fields → List ℕ → List ℕ → Axis → ℕ → ℕ → List ℕ → Type 0
Proves f h sq roots axis r c path =
    roots ≡ roots_of f h sq → h.data_root ≡ data_root_of f h roots → verifies f h r c axis (cell_share h sq r c) path ≡ true
