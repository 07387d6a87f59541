use Rattle.std.proofs.Common.{refl}
use Rattle.octets.specs.Shares.{buffer}
use Rattle.galois.specs.Field.{polynomial_product, reduced, mul, squares, inv}
use Rattle.codes.specs.Over.{over}
use Rattle.codes.specs.Code.{applied, lagrange, polynomial}
use Rattle.extension.specs.Square.{grid, extension}
use Rattle.extension.proofs.Extends.{coded_is_extension}
use Rattle.extension.proofs.laws.extension_stands.Goals as goal

pub returns : goal.returns
unfolding buffer polynomial_product reduced mul squares inv over applied lagrange polynomial grid extension
returns c = record { values = refl; coded = coded_is_extension }
