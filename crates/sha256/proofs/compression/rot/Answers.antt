use Rattle.sha256.specs.Compression.{rotr}
use Rattle.sha256.proofs.compression.rot.Goals as goal

pub returns : goal.returns
unfolding rotr
returns c = c.rotate_right.ensures
