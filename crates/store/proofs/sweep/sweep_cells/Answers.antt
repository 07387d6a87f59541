use Rattle.std.proofs.Common.{◌≡◌, ℕ, ◌*◌, ◌/◌, ◌%◌, length, Ok, ap, ◌∙◌, subst, arith}
use Rattle.std.specs.Int.{from_bool}
use Rattle.std.specs.Option.{is_some}
use Rattle.header.specs.Fields.{Fields, fields_of}
use Rattle.header.specs.Sizes.{width, cell_count, path_len}
use Rattle.header.proofs.Measures.{measured}
use Rattle.store.specs.Meaning.{Meaning, block}
use Rattle.store.specs.Showing.{asked}
use Rattle.store.specs.Sweeping.{Holds}
use Rattle.store.proofs.Asking.{admit}
use Rattle.store.proofs.Sweeps.{Cells, Marks, cells_more, marks_more, all_cells, all_marks_lem, row_below, col_below, moved}
use Rattle.store.proofs.sweep.sweep_cells.Goals as goal

pub overflow_cast-cell : goal.overflow_cast-cell
overflow_cast-cell g c =
    let h = c.args.h.now in
    let m = measured (fields_of h) c.lengths-n.result h.width h.size c.lengths-n.ensures in
    omega (arith, row_below c.loop-i.i c.lengths-n.result.width (omega arith) (omega arith))

pub overflow_cast-cell-in-loop-i : goal.overflow_cast-cell-in-loop-i
overflow_cast-cell-in-loop-i g c =
    let h = c.args.h.now in
    let m = measured (fields_of h) c.lengths-n.result h.width h.size c.lengths-n.ensures in
    omega (arith, col_below c.loop-i.i c.lengths-n.result.width (omega arith))

pub loop-i-preserved : goal.loop-i-preserved
loop-i-preserved g c = λ o.
    let f = g.H.Hash.meaning in
    let h : Fields = fields_of c.args.h.now in
    let n = c.lengths-n.result in
    let i = c.loop-i.i in
    let s = g.S.Store in
    let m : Meaning = s.meaning c.args.store.now in
    let now-m : Meaning = s.meaning c.loop-i.store in
    let inv = c.loop-i.invariant o in
    let w : n.width ≡ width h = ap (λ l. l.width) c.lengths-n.ensures in
    let few : n.cells ≡ cell_count h = ap (λ l. l.cells) c.lengths-n.ensures in
    let size : n.share ≡ h.s = ap (λ l. l.share) c.lengths-n.ensures in
    let me = measured h n c.args.h.now.width c.args.h.now.size c.lengths-n.ensures in
    let r = i / n.width in
    let k-is : now-m.k ≡ h.k = ap (λ (v : Meaning). v.k) inv.0 ∙ c.requires.store.0 in
    let s-is : now-m.s ≡ h.s = ap (λ (v : Meaning). v.s) inv.0 ∙ c.requires.store.1 in
    let row = row_below i n.width (omega arith) (omega arith) in
    let col = col_below i n.width (omega arith) in
    let free : asked now-m.k now-m.s (i / n.width) (i % n.width) _ (length c.loop-i.path) ≡ Ok tt =
    admit now-m.k now-m.s (i / n.width) (i % n.width) _ _ (omega arith) (omega arith) (omega arith) (omega (arith, ap (λ k. path_len (block k 0)) k-is)) in
    let x = c.hold-held.ensures inv.1 free in
    let y : Holds f h m (s.meaning c.hold-held.new.store) (s.ordered c.hold-held.new.store) (i / width h) (i % width h) (is_some c.hold-held.result) c.hold-held.new.share =
    moved f h now-m m _ _ i n.width _ _ inv.0 w x in (
      y.same,
      y.kept,
      cells_more f h m i _ _ c.loop-i.square c.hold-held.new.share (ap (λ z. i * z) size) (omega arith) inv.2 (omega arith) (omega (arith, c.hold-held.auto.share)) (omega arith) y.bytes,
      marks_more f h m i _ c.loop-i.marks _ inv.3 (omega arith) (c.from.ensures ∙ ap from_bool c.is_some.ensures) y.held_is,
    )

pub returns : goal.returns
returns g c = λ o.
    let f = g.H.Hash.meaning in
    let h : Fields = fields_of c.args.h.now in
    let n = c.lengths-n.result in
    let inv = c.loop-i.invariant o in
    let m : Meaning = g.S.Store.meaning c.args.store.now in
    let few : n.cells ≡ cell_count h = ap (λ l. l.cells) c.lengths-n.ensures in
    let end : c.loop-i.i ≡ cell_count h = omega arith in (
      all_cells f h m c.loop-i.square (omega arith) (subst (λ (j : ℕ). Cells f h m j c.loop-i.square) end inv.2),
      all_marks_lem f h m c.loop-i.marks (omega arith) (subst (λ (j : ℕ). Marks f h m j c.loop-i.marks) end inv.3),
      inv.0,
      inv.1,
    )
