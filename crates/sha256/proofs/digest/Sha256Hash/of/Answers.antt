use Rattle.sha256.specs.Message.{sha256}
use Rattle.sha256.proofs.digest.Sha256Hash.of.Goals as goal

pub returns : goal.returns
unfolding sha256
returns c = c.hash_blocks.ensures
