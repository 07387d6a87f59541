use Rattle.std.proofs.Common.{◌+◌, length, take, ap, ◌∙◌, arith}
use Rattle.sha256.specs.Message.{zero_count}
use Rattle.sha256.proofs.Messages.{pads}
use Rattle.sha256.proofs.message.WorkChainBLOCK.pad.Goals as goal

pub returns : goal.returns
returns c =
    ap (take (zero_count c.args.len + 9)) c.put_length.ensures
    ∙ pads c.args.len (length c.args.buffer.now) c.clear.new.block c.clear.ensures (omega arith)
