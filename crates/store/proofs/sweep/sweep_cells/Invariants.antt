use Rattle.std.proofs.Common.{◌≡◌}
use Rattle.header.specs.Fields.{fields_of}
use Rattle.store.proofs.Sweeps.{Cells, Marks}
use Rattle.store.proofs.sweep.sweep_cells.Given as goal

abbrev pub invariant-loop-i : goal.invariant-loop-i
invariant-loop-i g l =
    let s = g.S.Store in
    let m = s.meaning l.initial.store in
    s.ordered l.initial.store →
    (s.meaning l.store ≡ m) × s.ordered l.store × Cells g.H.Hash.meaning (fields_of l.h) m l.i l.square × Marks g.H.Hash.meaning (fields_of l.h) m l.i l.marks
