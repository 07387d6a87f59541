use Rattle.header.specs.Fields.{fields_of}
use Rattle.wire.specs.Readers.{rest_of}
use Rattle.fraudproof.proofs.Forms.{Walked}
use Rattle.fraudproof.proofs.read.read_witnesses.Given as goal

abbrev pub invariant-loop-n : goal.invariant-loop-n
invariant-loop-n l = Walked (fields_of l.h) l.h.k l.initial.reader.at (rest_of l.initial.reader) l._n l.reader.at (rest_of l.reader)
