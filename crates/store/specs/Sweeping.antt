-- What is held of a square after every cell was put to a store.
use Rattle.std.specs.Prelude.{◌≡◌, ℕ, ◌/◌, ◌%◌, Bool, cond, ◌&&◌, List, length, Some, None, Option, ◌==◌, slice_index}
use Rattle.std.specs.Option.{is_some}
use Rattle.octets.specs.Shares.{buffer}
use Rattle.header.specs.Fields.{Fields}
use Rattle.header.specs.Sizes.{width, cell_count, square_len}
use Rattle.evidence.specs.Evidence.{Evidence}
use Rattle.store.specs.Meaning.{Meaning}
use Rattle.store.specs.Taking.{taken}

-- byte b of an evidence's share, 0 where there is none
abbrev pub share_byte : Option Evidence → ℕ → ℕ
share_byte None b = 0
share_byte (Some e) b = slice_index e.share b

-- the mark of a cell: 1 where an evidence is taken
abbrev pub mark_of : Option Evidence → ℕ
mark_of None = 0
mark_of (Some e) = 1

-- the evidence taken at the cell with number i
abbrev pub taken_at : (List ℕ → List ℕ) → Fields → Meaning → ℕ → Option Evidence
taken_at f h m i = taken f h m (i / width h) (i % width h)

-- the square of the shares taken, zeros elsewhere, and the marks of its cells
abbrev pub held_square : (List ℕ → List ℕ) → Fields → Meaning → List ℕ
held_square f h m = buffer (cell_count h) h.s (λ i b. share_byte (taken_at f h m i) b)

abbrev pub held_marks : (List ℕ → List ℕ) → Fields → Meaning → List ℕ
held_marks f h m = buffer (width h) (width h) (λ r c. mark_of (taken f h m r c))

-- what holding one cell of a store in order that means m gives: whether an evidence is taken, and the share in its buffer
pub record Holds (f : List ℕ → List ℕ) (h : Fields) (m m' : Meaning) (order : Type 0) (r c : ℕ) (held : Bool) (share' : List ℕ) : Type 0 where
  pub bytes : (b : ℕ) → slice_index share' b ≡ share_byte (taken f h m r c) b
  pub held_is : held ≡ is_some (taken f h m r c)
  pub same : m' ≡ m
  pub kept : order

-- the store has the header's k and share size, and n and p bytes are a square and marks
abbrev pub sweep_fits : Fields → Meaning → ℕ → ℕ → Bool
sweep_fits h m n p = m.k == h.k && (m.s == h.s && (n == square_len h && p == cell_count h))

-- what a sweep leaves of a store in order that means m: square and marks are those of the evidence taken, or as they were where the
-- sizes do not fit
pub record Swept (f : List ℕ → List ℕ) (h : Fields) (m m' : Meaning) (order : Type 0) (square marks square' marks' : List ℕ) : Type 0 where
  pub square_is : square' ≡ cond (sweep_fits h m (length square) (length marks)) (held_square f h m) square
  pub marks_is : marks' ≡ cond (sweep_fits h m (length square) (length marks)) (held_marks f h m) marks
  pub same : m' ≡ m
  pub kept : order
