-- What a store means with some of its cells withheld.
use Rattle.std.specs.Prelude.{ℕ, Bool, false, cond, not, List, length, get_or, None, Ok, Err, Result, ◌==◌, nat_eq, nat_le, slice_index, slice_index_or}
use Rattle.std.specs.List.{list_all}
use Rattle.octets.specs.Outcome.{Refused, plain}
use Rattle.header.specs.Sizes.{cell_count, cell_number}
use Rattle.store.specs.Meaning.{Meaning, block}

-- the store below without the cells that a test of their numbers hides
abbrev pub without : Meaning → (ℕ → Bool) → Meaning
without m hidden =
    record { k = m.k; s = m.s; at = λ r c. cond (hidden (cell_number (block m.k m.s) r c)) None (m.at r c) }

-- the test is a list, one entry to a cell
abbrev pub masked : Meaning → List Bool → Meaning
masked m hidden = without m (λ i. get_or hidden i false)

-- whether it hides cell (r, c)
abbrev pub hides : Meaning → List Bool → ℕ → ℕ → Bool
hides m hidden r c = slice_index_or hidden (cell_number (block m.k m.s) r c) false

-- the test is a list of marks: 1 hides the cell
abbrev pub hiding : Meaning → List ℕ → Meaning
hiding m marks = without m (λ i. nat_eq (slice_index marks i) 1)

-- each mark is 0 or 1
abbrev pub all_marks : List ℕ → Bool
all_marks marks = list_all (λ m. nat_le m 1) marks

-- what withholding answers over a store that means m: refused by 3 for another number of marks than there are cells, by 11 for a mark
-- over 1
abbrev pub withhold_outcome : Meaning → List ℕ → Result (Unit {0}) Refused
withhold_outcome m marks =
    cond (not (length marks == cell_count (block m.k m.s))) (Err (plain 3)) (cond (not (all_marks marks)) (Err (plain 11)) (Ok tt))
