use Rattle.merkle.proofs.Climbing.{climbs_own, lengths, parts}
use Rattle.merkle.proofs.laws.trees_climb.Goals as goal

pub returns : goal.returns
returns g c =
    let f = g.H.Hash.meaning in
    record { own = λ R. climbs_own R f; lengths = lengths f; parts = parts f }
