use Rattle.std.proofs.Common.{◌+◌, [], ◌∷◌, length, ◌∙◌, arith}
use Rattle.octets.proofs.Splices.{spliced_in}
use Rattle.collisions.proofs.Joined.{joined_put}
use Rattle.collisions.proofs.strings.put_joined.Goals as goal

pub returns-clause-written : goal.returns-clause-written
returns-clause-written c =
    let l = c.args.left.now in
    let r = c.args.right.now in
    let out = c.args.out.now in
    joined_put c.args.lead l r out _ _ _ (omega arith)
    (c.splice.ensures.written ∙ spliced_in 0 (c.args.lead ∷ []) out (omega arith))
    (c.splice-2.ensures.written ∙ spliced_in 1 l c.splice.new.out (omega arith))
    (c.splice-3.ensures.written ∙ spliced_in (1 + length l) r c.splice-2.new.out (omega arith))
