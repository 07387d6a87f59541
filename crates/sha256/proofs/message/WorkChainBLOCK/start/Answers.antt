use Rattle.std.proofs.Common.{◌∙◌}
use Rattle.sha256.proofs.Messages.{value_none}
use Rattle.sha256.proofs.message.WorkChainBLOCK.start.Goals as goal

pub returns : goal.returns
returns c p = c.first_value.ensures ∙ value_none p
