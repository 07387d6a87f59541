-- What a walk and an opening leave.
use Rattle.std.specs.Prelude.{◌≡◌, ℕ, List, [], length, drop, Ok, Err, Result}
use Rattle.octets.specs.Outcome.{Refused, outcome}
use Rattle.header.specs.Fields.{Fields}
use Rattle.blockfile.specs.declared.index.Index.{Index}
use Rattle.blockfile.specs.declared.point.Point.TheVariants.{Between}
use Rattle.blockfile.specs.declared.refusal.FileRefusal.{FileRefusal}
use Rattle.blockfile.specs.Index.{indexed, Within}
use Rattle.blockfile.specs.declared.walk.Walk.{Walk}
use Rattle.blockfile.specs.Refusals.{told}
use Rattle.blockfile.specs.Steps.{Held, held}
use Rattle.blockfile.specs.Walk.{Entry, sofar, shown_in, walk}

-- an answer without what it gives
abbrev pub closed : {A : Type 0} → Result A Refused → Result (Unit {0}) Refused
closed (Ok x) = Ok tt
closed (Err e) = Err e

-- where a walk has come to after a step that gives nothing else
abbrev pub after_it : Walk → Unit {0} → Held
after_it w t = held w.point w.index

-- an index says of each cell what some shares say, and names only records inside the file
pub record Says (h : Fields) (bs : List ℕ) (es : List Entry) (ix : Index) : Type 0 where
  pub cells : (r c : ℕ) → indexed h bs ix r c ≡ shown_in es r c
  pub within : Within h (length bs) ix.at

-- the walk over the groups of a file, from a place on: its answer is that of the definition, and the index then says what the shares say
abbrev pub groups_from : Fields → List ℕ → ℕ → Result (List Entry) Refused
groups_from h bs start = walk (length (drop start bs)) h (sofar Between []) start (drop start bs)

pub record Walks (h : Fields) (bs : List ℕ) (start : ℕ) (r : Result (Unit {0}) FileRefusal) (ix : Index) : Type 0 where
  pub answer : outcome told r ≡ closed (groups_from h bs start)
  pub says : (es : List Entry) → groups_from h bs start ≡ Ok es → Says h bs es ix
