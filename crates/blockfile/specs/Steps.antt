-- One record of a file and the index.
use Rattle.std.specs.Prelude.{◌≡◌, ℕ, Bool, true, cond, Ok, Err, Result, ◌==◌, nat_lt, slice_index}
use Rattle.octets.specs.Outcome.{Refused}
use Rattle.header.specs.declared.cell.Axis.{Axis}
use Rattle.header.specs.Fields.{Fields}
use Rattle.header.specs.Lines.{axis_by, row_at, col_at}
use Rattle.header.specs.Sizes.{width, cell_number}
use Rattle.wire.specs.Refusals.{refused_at}
use Rattle.wire.specs.Values.{Rec, header, roots, group, share, end, claim, witness}
use Rattle.blockfile.specs.Index.{marked}
use Rattle.blockfile.specs.declared.index.Index.{Index}
use Rattle.blockfile.specs.declared.point.Point.{Point}
use Rattle.blockfile.specs.declared.point.Point.TheVariants.{Between, Inside}

-- where the walk has come to, and the index
pub record Held : Type 0 where
  pub point : Point
  pub index : Index

abbrev pub held : Point → Index → Held
held pt ix = record { point = pt; index = ix }

-- the line of the group that the walk is in is one of the block
abbrev pub line_low : Fields → Point → Bool
line_low h Between = true
line_low h (Inside x i) = nat_lt i (width h)

abbrev pub LineLow : Fields → Point → Type 0
LineLow h pt = line_low h pt ≡ true

-- one more share record, refused by 12 where its cell has one
abbrev pub noting : Point → Index → ℕ → ℕ → Axis → Result Held Refused
noting pt ix n at x = cond (slice_index ix.at n == 0) (Ok (held pt (marked ix n at x))) (Err (refused_at 12 at))

abbrev pub go_between : Index → ℕ → Rec → Result Held Refused
go_between ix at (group a i) = Ok (held (Inside (axis_by a) i) ix)
go_between ix at (header g) = Err (refused_at 10 at)
go_between ix at (roots bs) = Err (refused_at 10 at)
go_between ix at (share p s q) = Err (refused_at 10 at)
go_between ix at end = Err (refused_at 10 at)
go_between ix at (claim c) = Err (refused_at 10 at)
go_between ix at (witness v) = Err (refused_at 10 at)

abbrev pub go_inside : Fields → Axis → ℕ → Index → ℕ → Rec → Result Held Refused
go_inside h x i ix at (share p s q) = noting (Inside x i) ix (cell_number h (row_at x i p) (col_at x i p)) at x
go_inside h x i ix at end = Ok (held Between ix)
go_inside h x i ix at (header g) = Err (refused_at 10 at)
go_inside h x i ix at (roots bs) = Err (refused_at 10 at)
go_inside h x i ix at (group a j) = Err (refused_at 10 at)
go_inside h x i ix at (claim c) = Err (refused_at 10 at)
go_inside h x i ix at (witness v) = Err (refused_at 10 at)

abbrev pub go : Fields → Point → Index → ℕ → Rec → Result Held Refused
go h Between ix at r = go_between ix at r
go h (Inside x i) ix at r = go_inside h x i ix at r
