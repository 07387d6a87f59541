-- The index of an opened file: for each cell the byte place of its share record, and by which axis it came. No share record begins at
-- place 0, so 0 stands for none.
use Rattle.std.specs.Prelude.{ℕ, ◌+◌, ◌<◌, ◌≤◌, cond, List, take, drop, replicate, Some, None, Option, ◌==◌, ◌≢◌, slice_index, slice_index_or, slice_set}
use Rattle.header.specs.declared.cell.Axis.{Axis}
use Rattle.header.specs.declared.cell.Axis.TheVariants.{Row}
use Rattle.header.specs.Fields.{Fields}
use Rattle.header.specs.Sizes.{has_cell, cell_number, path_len, head_len, share_body_len}
use Rattle.evidence.specs.Evidence.{Evidence}
use Rattle.blockfile.specs.declared.index.Index.{Index}
use Rattle.blockfile.specs.declared.index.Place.{Place}

-- the share record of a cell, by the cell's number
abbrev pub entry_of : Index → ℕ → Option Place
entry_of ix n = cond (slice_index ix.at n == 0) None (Some (record { at = slice_index ix.at n; axis = slice_index_or ix.axis n Row }))

-- the index that has no share record
abbrev pub no_places : Index
no_places = record { at = replicate 4096 0; axis = replicate 4096 Row }

-- the index with one more share record
abbrev pub marked : Index → ℕ → ℕ → Axis → Index
marked ix n at x = record { at = slice_set ix.at n at; axis = slice_set ix.axis n x }

-- the evidence in the share record at a byte place: behind the head and the place number a share, and then a path
abbrev pub evidence_in : Fields → List ℕ → ℕ → Axis → Evidence
evidence_in h bs p x = record {
  axis = x;
  share = take h.s (drop (p + 8) bs);
  path = take (path_len h) (drop (p + (8 + h.s)) bs);
}

abbrev pub evidence_by : Fields → List ℕ → ℕ → Axis → Option Evidence
evidence_by h bs p x = cond (p == 0) None (Some (evidence_in h bs p x))

-- what an index says of a cell
unfoldable pub indexed : Fields → List ℕ → Index → ℕ → ℕ → Option Evidence
indexed h bs ix r c = cond (has_cell h r c) (evidence_by h bs (slice_index ix.at (cell_number h r c)) (slice_index_or ix.axis (cell_number h r c) Row)) None

-- every record that an index names lies inside the file
abbrev pub Within : Fields → ℕ → List ℕ → Type 0
Within h n ps = (i : ℕ) → i < 4096 → (slice_index ps i ≢ 0) → slice_index ps i + (head_len + share_body_len h) ≤ n
