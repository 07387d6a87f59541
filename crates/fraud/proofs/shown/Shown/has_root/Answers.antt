use Rattle.std.proofs.Common.{◌*◌, ◌≤◌, sym, ap, subst}
use Rattle.erasure.proofs.Bounds.{width_most}
use Rattle.erasure.proofs.Tables.{room}
use Rattle.header.specs.Fields.{fields_of}
use Rattle.header.proofs.Measures.{measured}
use Rattle.fraud.proofs.shown.Shown.has_root.Goals as goal

pub slice_bounds-table-end : goal.slice_bounds-table-end
slice_bounds-table-end g c =
    let h = c.args.self.now.header.now in
    subst (λ n. n * h.k ≤ 2048) (sym (ap (λ l. l.width) c.lengths-n.ensures)) (room h.k (width_most h.k h.width))

pub slice_bounds-cell-end : goal.slice_bounds-cell-end
slice_bounds-cell-end g c =
    let h = c.args.self.now.header.now in
    (measured (fields_of h) c.lengths-n.result h.width h.size c.lengths-n.ensures).sized
