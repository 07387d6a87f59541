use Rattle.sha3.specs.Keccak.{rotl}
use Rattle.sha3.proofs.permutation.rot.Goals as goal

pub returns : goal.returns
unfolding rotl
returns c = c.rotate_left.ensures
