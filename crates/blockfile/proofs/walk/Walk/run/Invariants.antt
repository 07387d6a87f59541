use Rattle.std.proofs.Common.{◌-◌, length}
use Rattle.blockfile.proofs.Walks.{Going}
use Rattle.blockfile.proofs.walk.Walk.run.Given as goal

abbrev pub invariant-loop-reader : goal.invariant-loop-reader
invariant-loop-reader l = Going l.fn.self.header l.fn.reader l.self l.reader

abbrev pub decreases-loop-reader : goal.decreases-loop-reader
decreases-loop-reader l = length l.reader.bytes.now - l.reader.at
