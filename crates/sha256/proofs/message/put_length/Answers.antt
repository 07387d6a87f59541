use Rattle.std.proofs.Common.{◌≡◌, ◌+◌, ◌-◌, ◌*◌, ap, ◌∙◌, arith}
use borrow.Rule.Slice.PartMut.{put_mid}
use Rattle.sha256.specs.Message.{long_bytes}
use Rattle.sha256.proofs.Messages.{long_wraps}
use Rattle.sha256.proofs.message.put_length.Goals as goal

pub returns : goal.returns
returns c =
    let times : c.args.len * 8 ≡ 8 * c.args.len = omega arith in
    let eight : c.args.at + 8 - c.args.at ≡ 8 = omega arith in
    ap (λ ys. put_mid c.args.at (c.args.at + 8 - c.args.at) c.args.buffer.now ys) (c.copy_from_slice.ensures.after ∙ c.to_be_bytes.ensures ∙ long_wraps (c.args.len * 8) ∙ ap long_bytes times) ∙ ap (λ k. put_mid c.args.at k c.args.buffer.now (long_bytes (8 * c.args.len))) eight
