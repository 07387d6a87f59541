use Rattle.std.proofs.Common.{[], refl, rules}
use Rattle.blockfile.proofs.Walks.{empty_standing, none_within}
use Rattle.blockfile.proofs.file.BlockFile.empty.Goals as goal

pub invariant_of-result : goal.invariant_of-result
invariant_of-result c = record { within = none_within _ _ c.empty.result c.empty.ensures }

pub returns : goal.returns
returns c = record { head = search rules; roots_are = refl; cells = (empty_standing _ [] c.empty.result c.empty.ensures).kept }
