use Rattle.std.proofs.Common.{◌&&◌, eqb, length, sym, ap, ◌∙◌, arith}
use Rattle.std.proofs.lemmas.List.{length-take-le}
use Rattle.std.proofs.lemmas.Bool.{and_parts, eqb-true}
use Rattle.header.specs.Fields.{Fields, fields_of}
use Rattle.header.specs.Sizes.{square_len, cell_count}
use Rattle.header.proofs.Measures.{measured}
use Rattle.store.specs.Meaning.{Meaning}
use Rattle.store.proofs.sweep.sweep.Goals as goal

pub slice_bounds-room-end : goal.slice_bounds-room-end
slice_bounds-room-end g c =
    let m = measured (fields_of c.args.h.now) c.lengths-n.result c.args.h.now.width c.args.h.now.size c.lengths-n.ensures in
    omega arith

pub slice_bounds-path-end : goal.slice_bounds-path-end
slice_bounds-path-end g c =
    let m = measured (fields_of c.args.h.now) c.lengths-n.result c.args.h.now.width c.args.h.now.size c.lengths-n.ensures in
    sym (length-take-le c.lengths-n.result.path _ (omega arith))

pub sweep_cells-requires-clause-room : goal.sweep_cells-requires-clause-room
sweep_cells-requires-clause-room g c =
    let h : Fields = fields_of c.args.h.now in
    let m : Meaning = g.S.Store.meaning c.args.store.now in
    let sq = length c.args.square.now in
    let mk = length c.args.marks.now in
    let me = measured h c.lengths-n.result c.args.h.now.width c.args.h.now.size c.lengths-n.ensures in
    let a = and_parts (eqb m.k h.k) (eqb m.s h.s && (eqb sq (square_len h) && eqb mk (cell_count h))) (sym c.if-not-sweep_fits.ensures) in
    let b = and_parts (eqb m.s h.s) (eqb sq (square_len h) && eqb mk (cell_count h)) a.1 in
    let d = and_parts (eqb sq (square_len h)) (eqb mk (cell_count h)) b.1 in (
      length-take-le c.lengths-n.result.path _ (omega arith) ∙ ap (λ l. l.path) c.lengths-n.ensures,
      (eqb-true sq (square_len h) d.0, eqb-true mk (cell_count h) d.1),
    )
