use Rattle.std.proofs.Common.{ap, ◌∙◌}
use Rattle.sha3.specs.Lanes.{xor_row}
use Rattle.sha3.proofs.Blocks.{absorbed_rows}
use Rattle.sha3.proofs.sponge.with_block.Goals as goal

pub returns : goal.returns
returns c =
    absorbed_rows c.args.s c.args.block.now _ _ _ _ _
    (c.xor_row.ensures ∙ ap (xor_row c.args.s.r0) c.row.ensures)
    (c.xor_row-2.ensures ∙ ap (xor_row c.args.s.r1) c.row-2.ensures)
    (c.xor_row-3.ensures ∙ ap (xor_row c.args.s.r2) c.row-3.ensures)
    c.lane.ensures c.lane-2.ensures
