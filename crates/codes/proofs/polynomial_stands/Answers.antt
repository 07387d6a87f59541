use Rattle.codes.proofs.Polynomial.{first_law, second_law, weight_law, polynomial_law}
use Rattle.codes.proofs.polynomial_stands.Goals as goal

pub returns : goal.returns
returns c = record { first = first_law; second = second_law; weights = weight_law; words = polynomial_law }
