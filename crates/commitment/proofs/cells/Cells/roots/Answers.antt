use Rattle.std.proofs.Common.{arith}
use Rattle.std.proofs.lemmas.Nat.{mul-le}
use Rattle.commitment.proofs.Fitting.{cells_measured}
use Rattle.commitment.proofs.cells.Cells.roots.Goals as goal

pub put_roots-requires : goal.put_roots-requires
put_roots-requires g c =
    let s = c.args.self.now in
    let m = cells_measured s.header.now s.lengths s.measured in
    (omega (arith, m.wide, mul-le s.lengths.width s.lengths.depth 64 6 m.wide m.deep), omega (arith, m.roots))
