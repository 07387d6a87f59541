use Rattle.std.proofs.Common.{◌*◌, ap, ◌∙◌}
use Rattle.sha256.specs.Compression.{compressed}
use Rattle.sha256.specs.Vars.{vars}
use Rattle.sha256.proofs.Messages.{block_next, value_more}
use Rattle.sha256.proofs.message.WorkChainBLOCK.absorb.Goals as goal

pub returns : goal.returns
returns c p n v w =
    value_more p (vars c.args.self) _ n v
    (c.compress.ensures ∙ ap (compressed (vars c.args.self)) (block_next p c.args.block.now (64 * n) w))
