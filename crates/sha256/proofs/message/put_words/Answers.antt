use Rattle.std.proofs.Common.{◌+◌, ◌*◌, ◌∙◌, arith}
use Rattle.octets.proofs.Joins.{joined_put, joined_all}
use Rattle.sha256.specs.Message.{word_bytes}
use Rattle.sha256.proofs.message.put_words.Goals as goal

pub loop-i-preserved : goal.loop-i-preserved
loop-i-preserved c =
    let i = c.loop-i.i in
    joined_put word_bytes c.args.words.now c.loop-i.out _ i (4 * i) (4 * (i + 1)) _
    c.loop-i.invariant (c.copy_from_slice.ensures.after ∙ c.to_be_bytes.ensures) (omega arith) (omega arith) (omega arith)

pub returns : goal.returns
returns c = joined_all word_bytes c.args.words.now c.loop-i.out c.loop-i.i (4 * c.loop-i.i) c.loop-i.invariant (omega arith) (omega arith)
