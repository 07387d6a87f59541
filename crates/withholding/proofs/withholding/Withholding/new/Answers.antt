use Rattle.std.proofs.Common.{refl}
use Rattle.withholding.proofs.Hiding.{none_masked}
use Rattle.withholding.proofs.withholding.Withholding.new.Goals as goal

pub returns : goal.returns
returns g c = record { below = refl; nothing = none_masked (g.S.Store.meaning c.args.below) 4096; order = λ o. o }
