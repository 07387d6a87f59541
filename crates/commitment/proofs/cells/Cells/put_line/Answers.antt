use Rattle.std.proofs.Common.{◌+◌, ◌*◌, arith}
use Rattle.octets.proofs.Shares.{share_end}
use Rattle.header.proofs.Numbers.{on_below}
use Rattle.commitment.proofs.Fitting.{cells_measured, cells_long}
use Rattle.commitment.proofs.cells.Cells.put_line.Goals as goal

pub cells_of-requires : goal.cells_of-requires
cells_of-requires g c =
    let s = c.args.self.now in
    let m = cells_measured s.header.now s.lengths s.measured in
    (m.wide, c.requires.line)

pub put_leaves-requires-clause-short : goal.put_leaves-requires-clause-short
put_leaves-requires-clause-short g c =
    let s = c.args.self.now in
    let m = cells_measured s.header.now s.lengths s.measured in
    omega (arith, m.sized)

pub put_leaves-requires-clause-few : goal.put_leaves-requires-clause-few
put_leaves-requires-clause-few g c =
    let s = c.args.self.now in
    let m = cells_measured s.header.now s.lengths s.measured in
    let w = s.lengths.width in
    λ j l. omega (arith, m.few, c.cells_of.ensures j, on_below w c.args.n j c.requires.line l)

pub put_leaves-requires-clause-inside : goal.put_leaves-requires-clause-inside
put_leaves-requires-clause-inside g c =
    let s = c.args.self.now in
    let w = s.lengths.width in
    let k = c.cells_of.result in
    λ j l. share_end (k.first + j * k.step) (w * w) s.lengths.share _ (omega (arith, c.cells_of.ensures j, on_below w c.args.n j c.requires.line l))
    (cells_long s.header.now s.lengths _ s.measured s.whole)
