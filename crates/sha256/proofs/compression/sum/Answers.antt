use Rattle.std.proofs.Common.{refl}
use Rattle.sha256.specs.Compression.{add}
use Rattle.sha256.proofs.compression.sum.Goals as goal

pub returns : goal.returns
unfolding add
returns c = refl
