-- Extending data to a committed square.
use Rattle.std.specs.Prelude.{◌≡◌, ℕ, ◌<◌, Bool, true, cond, not, ◌&&◌, List, length, Ok, Err, Result, ◌==◌, slice_index}
use Rattle.octets.specs.Outcome.{Refused, plain}
use Rattle.merkle.specs.Climb.{slot}
use Rattle.codes.specs.Code.{Table}
use Rattle.erasure.specs.Limits.{ok_width, ok_size}
use Rattle.header.specs.declared.cell.Axis.{Axis}
use Rattle.header.specs.Fields.{Fields}
use Rattle.header.specs.Sizes.{width, depth, data_len, line_number}
use Rattle.extension.specs.Square.{extension, extension_by_columns, quadrant}
use Rattle.extension.specs.Lines.{line_shares}
use Rattle.extension.specs.Laws.{LinesCoded, LinesFromAny}
use Rattle.commitment.specs.Values.{value_root}
use Rattle.commitment.specs.Roots.{roots_of, data_root_of, square_fits}
use Rattle.commitment.specs.Commit.{committed}

-- data of l bytes, a square of n and roots of m have the block's lengths
abbrev pub extend_fits : Fields → ℕ → ℕ → ℕ → Bool
extend_fits h l n m = l == data_len h && square_fits h n m

-- what extending data d answers, with buffers of n bytes for the square and m for the roots, by a code with the table T: refused by 1 for a
-- wrong k, by 2 for a wrong s, by 3 for data or a buffer of wrong length; else the header of the extension
abbrev pub extend_outcome : (List ℕ → List ℕ) → Table → Fields → List ℕ → ℕ → ℕ → Result Fields Refused
extend_outcome f T h d n m =
    cond (not (ok_width h.k)) (Err (plain 1)) (cond (not (ok_size h.s)) (Err (plain 2))
    (cond (not (extend_fits h (length d) n m)) (Err (plain 3)) (Ok (committed f h (extension T h.k h.s d)))))

-- what holds of the square sq and the roots that the data d are extended to
pub record Extended (f : List ℕ → List ℕ) (T : Table) (h : Fields) (d sq roots : List ℕ) : Type 0 where
  -- extending columns first gives the same square
  pub by_columns : sq ≡ extension_by_columns T h.k h.s d
  -- every row and every column is a codeword
  pub coded : LinesCoded T h.k h.s sq
  -- and the only codeword through its own cells at any k rising places
  pub from_any : LinesFromAny T h.k h.s sq
  -- the data stand in the first quadrant
  pub front : quadrant h.k h.s sq ≡ d
  -- the roots written are those of the trees over the lines' shares
  pub rooted : (axis : Axis) (i : ℕ) → i < width h → slot (line_number h axis i) roots ≡ value_root f (depth h) h.s (line_shares h.k h.s axis i sq)

-- the header h is given by the data d: it is the header of their extension by the table. A header is correctly extended if some data
-- give it
pub record GivenBy (f : List ℕ → List ℕ) (T : Table) (h : Fields) (d : List ℕ) : Type 0 where
  pub wide : ok_width h.k ≡ true
  pub sized : ok_size h.s ≡ true
  pub long : length d ≡ data_len h
  pub bytes : (n : ℕ) → slice_index d n < 256
  pub root : h.data_root ≡ data_root_of f h (roots_of f h (extension T h.k h.s d))

-- so it is of all data of an allowed k and s and the right length
abbrev pub ExtendStands : (List ℕ → List ℕ) → Table → Fields → List ℕ → Type 0
ExtendStands f T h d =
    ok_width h.k ≡ true → ok_size h.s ≡ true → length d ≡ data_len h
    → Extended f T h d (extension T h.k h.s d) (roots_of f h (extension T h.k h.s d)) × GivenBy f T (committed f h (extension T h.k h.s d)) d
