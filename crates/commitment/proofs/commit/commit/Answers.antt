use Rattle.std.proofs.Common.{◌≡◌, length, sym, ap, arith}
use Rattle.std.proofs.lemmas.Bool.{eqb-true}
use Rattle.header.specs.Fields.{fields_of}
use Rattle.header.specs.Sizes.{roots_len}
use Rattle.commitment.proofs.Fitting.{cells_measured}
use Rattle.commitment.proofs.commit.commit.Goals as goal

pub root-h-requires : goal.root-h-requires
root-h-requires g c =
    let s = c.in_ok-cells.cells in
    let m = cells_measured s.header.now s.lengths s.measured in
    omega (arith, m.deep)

pub invariant_of-leaves : goal.invariant_of-leaves
invariant_of-leaves g c =
    let s = c.in_ok-cells.cells in
    let m = cells_measured s.header.now s.lengths s.measured in
    let long : length c.args.roots.now ≡ roots_len (fields_of s.header.now) = eqb-true (length c.args.roots.now) (roots_len (fields_of s.header.now)) (sym c.in_ok-roots.ensures.answer) in
    record { hashed = omega arith; deep = omega (arith, m.deep); whole = omega (arith, m.above, m.roots, ap (λ l. l.roots) s.measured, c.roots.auto.roots, long) }
