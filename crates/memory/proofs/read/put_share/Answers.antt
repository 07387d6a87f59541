use Rattle.std.proofs.Common.{◌≡◌, ◌+◌, ◌*◌, ap, ◌∙◌, arith}
use Rattle.octets.specs.Shares.{share}
use Rattle.octets.proofs.Shares.{share_read}
use Rattle.header.specs.Fields.{fields_of}
use Rattle.header.proofs.Measures.{measured}
use Rattle.memory.proofs.Spots.{spot, numbered}
use Rattle.memory.proofs.read.put_share.Goals as goal

pub overflow_mul-at : goal.overflow_mul-at
overflow_mul-at c =
    let h = c.args.h.now in
    let n = c.lengths-n.result in
    let m = measured (fields_of h) n h.width h.size c.lengths-n.ensures in
    let w : n.width ≡ 2 * h.k = ap (λ l. l.width) c.lengths-n.ensures in
    let s = spot (2 * h.k) n.share c.args.cell.row c.args.cell.col (omega arith) (omega arith) (omega arith) m.sized in
    let i = ap (λ j. j * n.share) (numbered (fields_of h) c.args.cell.row c.args.cell.col c.in-Some.number c.in-Some.ensures.value) in
    omega arith

pub overflow_add-at : goal.overflow_add-at
overflow_add-at c =
    let h = c.args.h.now in
    let n = c.lengths-n.result in
    let m = measured (fields_of h) n h.width h.size c.lengths-n.ensures in
    let w : n.width ≡ 2 * h.k = ap (λ l. l.width) c.lengths-n.ensures in
    let s = spot (2 * h.k) n.share c.args.cell.row c.args.cell.col (omega arith) (omega arith) (omega arith) m.sized in
    let i = ap (λ j. j * n.share) (numbered (fields_of h) c.args.cell.row c.args.cell.col c.in-Some.number c.in-Some.ensures.value) in
    omega arith

pub returns : goal.returns
returns c =
    let h = c.args.h.now in
    let n = c.lengths-n.result in
    let image = c.args.image.now in
    c.copy_from_slice.ensures.after
    ∙ share_read n.share c.in-Some.number image
    ∙ ap (λ j. share n.share j image) (numbered (fields_of h) c.args.cell.row c.args.cell.col c.in-Some.number c.in-Some.ensures.value)
    ∙ ap (λ l. share l.share (c.args.cell.row * (2 * h.k) + c.args.cell.col) image) c.lengths-n.ensures
