-- What is left of witnesses that are gone through.
use Rattle.std.specs.Prelude.{List}
use Rattle.header.specs.Fields.{fields_of}
use Rattle.wire.specs.Values.{Witness}
use Rattle.fraudproof.specs.Witness.{witnesses_of}
use Rattle.fraudproof.specs.declared.cut.Witnesses.{Witnesses}

abbrev pub witnesses_left : Witnesses → List Witness
witnesses_left s = witnesses_of (fields_of s.header.now) s.records.now
