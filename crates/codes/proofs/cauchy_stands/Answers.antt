use Rattle.codes.proofs.Cauchy.{first_law, second_law, weight_law, cauchy_law}
use Rattle.codes.proofs.cauchy_stands.Goals as goal

pub returns : goal.returns
returns c = record { first = first_law; second = second_law; weights = weight_law; words = cauchy_law }
