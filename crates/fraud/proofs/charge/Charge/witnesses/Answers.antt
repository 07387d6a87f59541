use Rattle.std.proofs.Common.{◌∙◌}
use Rattle.fraud.specs.Charge.{block_of}
use Rattle.fraud.proofs.Cases.{witnesses_are}
use Rattle.fraud.proofs.charge.Charge.witnesses.Goals as goal

pub returns : goal.returns
returns c =
    c.witnesses.ensures ∙ witnesses_are (block_of c.args.self.now) c.args.self.now.proof.witnesses.now c.args.self.now.formed.witnesses_long
