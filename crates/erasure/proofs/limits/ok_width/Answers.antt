use Rattle.std.proofs.Common.{arith}
use Rattle.std.proofs.lemmas.Bool.Decides.{nat_tests}
use Rattle.erasure.specs.Limits.{ok_width}
use Rattle.erasure.proofs.limits.ok_width.Goals as goal

pub returns-in_default : goal.returns-in_default
unfolding ok_width
returns-in_default c = grind (arith, nat_tests)

pub returns-in_default-2 : goal.returns-in_default-2
unfolding ok_width
returns-in_default-2 c = grind (arith, nat_tests)

pub returns-in-1 : goal.returns-in-1
unfolding ok_width
returns-in-1 c = grind (arith, nat_tests)

pub returns-in-1-2 : goal.returns-in-1-2
unfolding ok_width
returns-in-1-2 c = grind (arith, nat_tests)
