-- What a reader has before it, and what reading a record does to it.
use Rattle.std.specs.Prelude.{ℕ, List, drop}
use Rattle.header.specs.Fields.{Fields}
use Rattle.header.specs.Sizes.{head_len}
use Rattle.wire.specs.Parts.{Spot, Begins, after, value_of}
use Rattle.wire.specs.Values.{Rec}
use Rattle.wire.specs.Writing.{WritesBack}
use Rattle.wire.specs.declared.reader.Reader.{Reader}
use Rattle.wire.specs.declared.record.Record.{Record}

-- the bytes that were not read yet
abbrev pub rest_of : Reader → List ℕ
rest_of r = drop r.at r.bytes.now

-- the place in memory that a reader has come to
abbrev pub spot_of : Reader → Spot
spot_of r = after r.bytes.ref_ptr r.at

-- a record, and what a reader that has read it has before it
abbrev pub read_by : Reader → Record → Rec × List ℕ
read_by r x = (value_of x, rest_of r)

-- a reader of the same bytes, further on by a record that was read: its parts lie where the first reader was, and written again it
-- gives the bytes between the two
pub record Moves (h : Fields) (before after_it : Reader) (x : Record) : Type 0 where
  pub begins : Begins h (after (spot_of before) head_len) x
  pub back : WritesBack h (rest_of before) (value_of x) (rest_of after_it)
