use Rattle.std.proofs.Common.{rules}
use Rattle.galois.specs.Field.{mul}
use Rattle.std.proofs.lemmas.List.Edits.{map_over_more}
use Rattle.std.proofs.lemmas.List.{append-nil, take_all, drop_all}
use Rattle.galois.proofs.bulk.double_share.Goals as goal

pub loop-b-preserved : goal.loop-b-preserved
loop-b-preserved c = search (rules, map_over_more (mul 2))

pub returns : goal.returns
returns c = search (rules, take_all, drop_all, append-nil)
