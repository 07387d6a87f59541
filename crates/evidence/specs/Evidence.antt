-- Evidence for a cell: a proving axis, a share and a path. The cell is always the one that is asked about; nothing in the evidence names
-- it.
use Rattle.std.specs.Prelude.{ℕ, ◌+◌, Bool, cond, not, ◌&&◌, List, length, Ok, Err, Result, ◌==◌, nat_le}
use Rattle.std.specs.Str.{bytes_eq}
use Rattle.octets.specs.Outcome.{Refused, plain}
use Rattle.merkle.specs.Climb.{Node, Rung, plain_rule, through_two, climb}
use Rattle.header.specs.declared.cell.Axis.{Axis}
use Rattle.header.specs.Fields.{Fields}
use Rattle.header.specs.Lines.{line_of, place_on}
pub use Rattle.header.specs.Lines.{axis_by}
use Rattle.header.specs.Sizes.{depth, path_len, has_cell, line_number}

-- The climb of an evidence for cell (r, c). The share is a leaf of the tree of its line along the proving axis, from the cell's place
-- there; that tree's root is a leaf's value of the data tree, from the line's number: r for a row, w + c for a column.
abbrev pub evidence_rungs : Fields → Axis → ℕ → ℕ → List ℕ → List Rung
evidence_rungs h axis r c path = through_two (depth h) (place_on axis r c) (depth h + 1) (line_number h axis (line_of axis r c)) path

-- where it ends
abbrev pub evidence_end : (List ℕ → List ℕ) → Fields → Axis → ℕ → ℕ → List ℕ → List ℕ → Node
evidence_end f h axis r c share path = climb plain_rule f (evidence_rungs h axis r c path) share

-- a share and a path of the block's lengths
abbrev pub evidence_fits : Fields → ℕ → ℕ → Bool
evidence_fits h n m = n == h.s && m == path_len h

-- the evidence verifies at a cell: the cell is inside, the lengths are right, and the climb ends at the data root
abbrev pub verifies : (List ℕ → List ℕ) → Fields → ℕ → ℕ → Axis → List ℕ → List ℕ → Bool
verifies f h r c axis share path =
    has_cell h r c && (evidence_fits h (length share) (length path) && bytes_eq (evidence_end f h axis r c share path) h.data_root)

-- an evidence as one value, and that it verifies at a cell
pub record Evidence : Type 0 where
  pub axis : Axis
  pub share : List ℕ
  pub path : List ℕ

abbrev pub proves : (List ℕ → List ℕ) → Fields → ℕ → ℕ → Evidence → Bool
proves f h r c e = verifies f h r c e.axis e.share e.path

-- what the check of a share answers, under a hash of this kind: refused by 13 for another hash kind, by 15 for a cell outside, by 11
-- for an axis over 1, by 3 for a share or path of wrong length, by 20 where it does not verify
abbrev pub check_outcome : (List ℕ → List ℕ) → ℕ → Fields → ℕ → ℕ → ℕ → List ℕ → List ℕ → Result (Unit {0}) Refused
check_outcome f kind h r c a share path =
    cond (not (h.hash_kind == kind)) (Err (plain 13)) (cond (not (has_cell h r c)) (Err (plain 15)) (cond (not (nat_le a 1)) (Err (plain 11))
    (cond (not (evidence_fits h (length share) (length path))) (Err (plain 3)) (cond (not (verifies f h r c (axis_by a) share path)) (Err (plain 20)) (Ok tt)))))
