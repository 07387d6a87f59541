use Rattle.codes.proofs.Grid.{grid_law, square_values}
use Rattle.codes.proofs.grid_stands.Goals as goal

pub returns : goal.returns
returns c = record { law = grid_law; values = square_values }
