use Rattle.sha3.specs.Sponge.{sha3}
use Rattle.sha3.proofs.digest.Sha3Hash.of.Goals as goal

pub returns : goal.returns
unfolding sha3
returns c = c.hash_blocks.ensures
