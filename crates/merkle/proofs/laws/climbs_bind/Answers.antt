use Rattle.merkle.proofs.Bound.{plain_binds, plain_nodes_bind, two_bind, first_is}
use Rattle.merkle.proofs.Steps.{first_in_parts}
use Rattle.merkle.proofs.laws.climbs_bind.Goals as goal

pub returns : goal.returns
returns g c =
    let f = g.H.Hash.meaning in
    let sized = g.met.H.Hash.sized in
    record {
      leaves = plain_binds f sized;
      nodes = plain_nodes_bind f sized;
      through = two_bind f sized;
      first = first_is f;
      parts = first_in_parts f;
    }
