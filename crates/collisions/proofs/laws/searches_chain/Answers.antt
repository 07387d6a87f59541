use Rattle.collisions.proofs.Found.{finds_first, finds_then}
use Rattle.collisions.proofs.laws.searches_chain.Goals as goal

pub returns : goal.returns
returns g c = λ rs rs' qs qs' v w e.
    record { at_first = finds_first g.H.Hash.meaning rs rs' qs qs' v w e; or_then = finds_then g.H.Hash.meaning rs rs' qs qs' v w e }
