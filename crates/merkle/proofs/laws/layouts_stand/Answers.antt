use Rattle.merkle.proofs.Layouts.{layouts_stand, front_stands, climbs_both}
use Rattle.merkle.proofs.laws.layouts_stand.Goals as goal

pub returns : goal.returns
returns g c =
    let f = g.H.Hash.meaning in
    let sized = g.met.H.Hash.sized in
    record { stand = layouts_stand f sized; front = front_stands f sized; both = climbs_both f sized }
