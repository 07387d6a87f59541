use Rattle.std.proofs.Common.{◌∙◌}
use Rattle.sha3.proofs.Blocks.{state_none}
use Rattle.sha3.proofs.sponge.StateChainRATE.start.Goals as goal

pub returns : goal.returns
returns c p = c.empty_state.ensures ∙ state_none p
