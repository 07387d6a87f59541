use Rattle.std.proofs.Common.{◌-◌, ◌*◌, length, ◌∙◌, arith}
use Rattle.hash.specs.Digests.{digest_len}
use Rattle.merkle.specs.Climb.{join_of, plain_rule, slot}
use Rattle.merkle.proofs.Same.{node_same}
use Rattle.commitment.proofs.Folds.{slot_copied}
use Rattle.commitment.proofs.bands.row_root.Goals as goal

pub returns : goal.returns
returns g c =
    let row = c.args.row.now in
    c.grown_root.ensures
    ∙ node_same (join_of plain_rule g.H.Hash.meaning) _ (λ p. slot p row) c.args.depth 0
    (λ j l. slot_copied j (2 * length row - digest_len) row c.copy_from_slice.new.self _ c.copy_from_slice.ensures.after (omega arith) (omega arith))
