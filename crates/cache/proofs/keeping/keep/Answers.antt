use Rattle.std.proofs.Common.{Some}
use Rattle.cache.proofs.Keepers.{push_set}
use Rattle.cache.proofs.keeping.keep.Goals as goal

pub returns : goal.returns
returns c = push_set c.args.slots.now c.rotate_left.new.self (Some c.args.v) c.told-slots c.rotate_left.ensures.after
