use Rattle.header.specs.Fields.{fields_of}
use Rattle.store.proofs.Sweeps.{holds_some, holds_none}
use Rattle.store.proofs.sweep.hold.Goals as goal

pub returns-then-is_none : goal.returns-then-is_none
returns-then-is_none g c o free =
    holds_none g.H.Hash.meaning (fields_of c.args.h.now) _ _ _ c.args.cell.row c.args.cell.col _ _ _ _ free _ c.if-is_none.ensures _ _ (c.fill.ensures.after (λ y e. e)) (c.take_evidence-taken.ensures.taken o)

pub returns-else-is_none : goal.returns-else-is_none
returns-else-is_none g c o free =
    holds_some g.H.Hash.meaning (fields_of c.args.h.now) _ _ _ c.args.cell.row c.args.cell.col _ _ _ _ free _ c.if-is_none.ensures (c.take_evidence-taken.ensures.taken o)
