-- What a block file is and means: a header, roots, then any number of groups, each a group record, any shares and its own end.
use Rattle.std.specs.Prelude.{ℕ, zero, suc, ◌+◌, ◌-◌, cond, ◌&&◌, List, [], ◌∷◌, length, replicate, is_some, Some, None, Ok, Err, Option, Result, ◌==◌, nat_lt}
use Rattle.octets.specs.Outcome.{Refused, plain}
use Rattle.hash.specs.Digests.{digest_len}
use Rattle.header.specs.declared.cell.Axis.{Axis}
use Rattle.header.specs.Fields.{Fields}
use Rattle.header.specs.Lines.{axis_by, row_at, col_at}
use Rattle.evidence.specs.Evidence.{Evidence}
use Rattle.wire.specs.Refusals.{refused_at}
use Rattle.wire.specs.Values.{Rec, header, roots, group, share, end, claim, witness}
use Rattle.wire.specs.Reading.{reads_at}
use Rattle.wire.specs.declared.due.Due.{Due}
use Rattle.wire.specs.declared.due.Due.TheVariants as due
use Rattle.blockfile.specs.declared.point.Point.{Point}
use Rattle.blockfile.specs.declared.point.Point.TheVariants.{Between, Inside}

-- a share of the file: evidence for a cell
pub record Entry : Type 0 where
  pub row : ℕ
  pub col : ℕ
  pub evidence : Evidence

-- the evidence that some shares have for a cell
unfoldable pub shown_in : List Entry → ℕ → ℕ → Option Evidence
shown_in [] r c = None
shown_in (e ∷ es) r c = cond (e.row == r && e.col == c) (Some e.evidence) (shown_in es r c)

-- the share at place p of the group of line i along an axis: its cell is (i, p) for a row, (p, i) for a column
abbrev pub entry_at : Axis → ℕ → ℕ → List ℕ → List ℕ → Entry
entry_at x i p s q = record { row = row_at x i p; col = col_at x i p; evidence = record { axis = x; share = s; path = q } }

-- where the walk has come to, and the shares so far, the newest first
pub record Sofar : Type 0 where
  pub point : Point
  pub shares : List Entry

abbrev pub sofar : Point → List Entry → Sofar
sofar pt es = record { point = pt; shares = es }

-- between groups a group record is due, in a group a share or its end
abbrev pub due_at : Point → Due
due_at Between = due.Group
due_at (Inside x i) = due.InGroup

-- one more share, refused by 12 where its cell was seen
abbrev pub noted : Sofar → Entry → ℕ → Result Sofar Refused
noted st e at = cond (is_some (shown_in st.shares e.row e.col)) (Err (refused_at 12 at)) (Ok (sofar st.point (e ∷ st.shares)))

-- what the record at a place does; no other record is read at these points
abbrev pub step_between : List Entry → ℕ → Rec → Result Sofar Refused
step_between es at (group a i) = Ok (sofar (Inside (axis_by a) i) es)
step_between es at (header g) = Err (refused_at 10 at)
step_between es at (roots bs) = Err (refused_at 10 at)
step_between es at (share p s q) = Err (refused_at 10 at)
step_between es at end = Err (refused_at 10 at)
step_between es at (claim c) = Err (refused_at 10 at)
step_between es at (witness v) = Err (refused_at 10 at)

abbrev pub step_inside : Axis → ℕ → List Entry → ℕ → Rec → Result Sofar Refused
step_inside x i es at (share p s q) = noted (sofar (Inside x i) es) (entry_at x i p s q) at
step_inside x i es at end = Ok (sofar Between es)
step_inside x i es at (header g) = Err (refused_at 10 at)
step_inside x i es at (roots bs) = Err (refused_at 10 at)
step_inside x i es at (group a j) = Err (refused_at 10 at)
step_inside x i es at (claim c) = Err (refused_at 10 at)
step_inside x i es at (witness v) = Err (refused_at 10 at)

abbrev pub step_by : Point → List Entry → ℕ → Rec → Result Sofar Refused
step_by Between es at r = step_between es at r
step_by (Inside x i) es at r = step_inside x i es at r

abbrev pub step : Sofar → ℕ → Rec → Result Sofar Refused
step st at r = step_by st.point st.shares at r

-- the bytes may end between groups, and not in one
abbrev pub finish_by : Point → List Entry → ℕ → Result (List Entry) Refused
finish_by Between es at = Ok es
finish_by (Inside x i) es at = Err (refused_at 10 at)

abbrev pub finish : Sofar → ℕ → Result (List Entry) Refused
finish st at = finish_by st.point st.shares at

abbrev pub stepped : (Sofar → Result (List Entry) Refused) → Result Sofar Refused → Result (List Entry) Refused
stepped go (Ok st) = go st
stepped go (Err e) = Err e

abbrev pub turned : (Sofar → ℕ → List ℕ → Result (List Entry) Refused) → Sofar → ℕ → ℕ → Result (Rec × List ℕ) Refused → Result (List Entry) Refused
turned go st at n (Ok x) = stepped (λ next. go next (at + (n - length x.1)) x.1) (step st at x.0)
turned go st at n (Err e) = Err e

-- the groups in the bytes from a place on, in at most n records; each record has a head, so there are fewer records than bytes
unfoldable pub walk : ℕ → Fields → Sofar → ℕ → List ℕ → Result (List Entry) Refused
walk n h st at [] = finish st at
walk zero h st at (b ∷ bs) = Err (plain 7)
walk (suc n) h st at (b ∷ bs) = turned (walk n h) st at (length (b ∷ bs)) (reads_at h (due_at st.point) at (b ∷ bs))

-- a block file by its values
pub record Block : Type 0 where
  pub head : Fields
  pub roots : List ℕ
  pub shares : List Entry

abbrev pub as_block : Fields → List ℕ → Result (List Entry) Refused → Result Block Refused
as_block h rs (Ok es) = Ok (record { head = h; roots = rs; shares = es })
as_block h rs (Err e) = Err e

-- the groups behind the roots, in a file of n bytes
abbrev pub groups_behind : Fields → ℕ → List ℕ → Rec → Result Block Refused
groups_behind h n rest (roots rs) = as_block h rs (walk (length rest) h (sofar Between []) (n - length rest) rest)
groups_behind h n rest (header g) = Err (plain 10)
groups_behind h n rest (group a i) = Err (plain 10)
groups_behind h n rest (share p s q) = Err (plain 10)
groups_behind h n rest end = Err (plain 10)
groups_behind h n rest (claim c) = Err (plain 10)
groups_behind h n rest (witness v) = Err (plain 10)

abbrev pub behind_roots : Fields → ℕ → Result (Rec × List ℕ) Refused → Result Block Refused
behind_roots h n (Ok x) = groups_behind h n x.1 x.0
behind_roots h n (Err e) = Err e

-- the roots behind the header, and what follows
abbrev pub roots_behind : ℕ → List ℕ → Rec → Result Block Refused
roots_behind n rest (header h) = behind_roots h n (reads_at h due.Roots (n - length rest) rest)
roots_behind n rest (roots rs) = Err (plain 10)
roots_behind n rest (group a i) = Err (plain 10)
roots_behind n rest (share p s q) = Err (plain 10)
roots_behind n rest end = Err (plain 10)
roots_behind n rest (claim c) = Err (plain 10)
roots_behind n rest (witness v) = Err (plain 10)

abbrev pub behind_header : ℕ → Result (Rec × List ℕ) Refused → Result Block Refused
behind_header n (Ok x) = roots_behind n x.1 x.0
behind_header n (Err e) = Err e

-- before the header record no block is known; a header record is read alike in every block
abbrev pub no_block : Fields
no_block = record { k = 1; s = 1; hash_kind = 0; code_kind = 0; data_root = replicate digest_len 0 }

-- the most bytes of a block file
abbrev pub file_limit : ℕ
file_limit = 4194304

-- a block file: refused by 6 where it is too long, then record by record by 7, 8, 10, 9, 11 and 12, each with its byte place
unfoldable pub file_outcome : List ℕ → Result Block Refused
file_outcome bs = cond (nat_lt file_limit (length bs)) (Err (plain 6)) (behind_header (length bs) (reads_at no_block due.Header 0 bs))
