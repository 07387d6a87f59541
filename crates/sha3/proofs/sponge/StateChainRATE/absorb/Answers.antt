use Rattle.std.proofs.Common.{◌*◌, ap, ◌∙◌}
use Rattle.sha3.specs.Keccak.{permuted}
use Rattle.sha3.specs.Lanes.{lanes}
use Rattle.sha3.proofs.Blocks.{absorbed_next, state_more}
use Rattle.sha3.proofs.sponge.StateChainRATE.absorb.Goals as goal

pub returns : goal.returns
returns c p n v w =
    state_more p (lanes c.args.self) _ n v
    (c.permute.ensures ∙ ap permuted (absorbed_next (lanes c.args.self) p c.args.block.now _ (136 * n) w c.with_block.ensures))
