use Rattle.std.proofs.Common.{length, arith}
use Rattle.sha3.proofs.Blocks.{pads}
use Rattle.sha3.proofs.sponge.StateChainRATE.pad.Goals as goal

pub returns : goal.returns
returns c = pads c.args.len (length c.args.buffer.now) c.clear.new.block c.clear.ensures (omega arith)
