use Rattle.std.proofs.Common.{refl}
use Rattle.erasure.specs.Limits.{ok_width, ok_size}
use Rattle.header.proofs.header.Header.smallest.Goals as goal

pub invariant_of-result : goal.invariant_of-result
unfolding ok_width ok_size
invariant_of-result c = record { width = refl; size = refl }
