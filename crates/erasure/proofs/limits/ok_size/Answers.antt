use Rattle.std.proofs.Common.{arith}
use Rattle.std.proofs.lemmas.Bool.Decides.{nat_tests}
use Rattle.erasure.specs.Limits.{ok_size}
use Rattle.erasure.proofs.limits.ok_size.Goals as goal

pub returns : goal.returns
unfolding ok_size
returns c = grind (arith, nat_tests)
