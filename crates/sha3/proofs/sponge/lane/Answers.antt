use Rattle.std.proofs.Common.{◌∙◌, arith}
use Rattle.sha3.specs.Sponge.{lane_at}
use Rattle.sha3.proofs.Blocks.{chunk_lane}
use Rattle.sha3.proofs.sponge.lane.Goals as goal

pub returns : goal.returns
unfolding lane_at
returns c = c.from_le_bytes.ensures ∙ chunk_lane c.args.block.now _ c.args.i (omega arith) c.as_chunks.ensures.front (omega arith)
