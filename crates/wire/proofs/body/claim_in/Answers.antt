use Rattle.wire.proofs.Slices.{second_part}
use Rattle.wire.proofs.body.claim_in.Goals as goal

pub returns-clause-value : goal.returns-clause-value
returns-clause-value c =
    let f = second_part 3 32 c.args.body.now in
    let k = c.from_le_bytes.ensures in
    cc
