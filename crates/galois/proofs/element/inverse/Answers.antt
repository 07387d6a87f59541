use Rattle.std.proofs.Common.{arith}
use Rattle.galois.specs.Field.{polynomial_product, reduced, mul, squares, inv}
use Rattle.galois.proofs.Upto.{listed, listed_at}
use Rattle.galois.proofs.element.inverse.Goals as goal

-- the table is the list of the inverses, by computing
pub returns : goal.returns
unfolding listed polynomial_product reduced mul squares inv
returns c = listed_at inv 256 c.args.a (omega arith)
