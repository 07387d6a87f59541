use Rattle.std.proofs.Common.{arith}
use Rattle.hash.proofs.BlockSize.{block_fits}
use Rattle.hash.proofs.blocks.hash_blocks.Goals as goal

pub whole_as_slice-gather : goal.whole_as_slice-gather
whole_as_slice-gather g c = let b = block_fits g.row.BLOCK g.met.C.Chain.block_some in omega arith

pub absorb-value-requires : goal.absorb-value-requires
absorb-value-requires g c = let b = block_fits g.row.BLOCK g.met.C.Chain.block_some in omega arith
