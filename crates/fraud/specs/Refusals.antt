-- The refusals of checking and extracting, by number and values.
use Rattle.std.specs.Prelude.{[], ◌∷◌}
use Rattle.octets.specs.Outcome.{Refused, plain}
use Rattle.wire.specs.Refusals.{told_read}
use Rattle.fraud.specs.declared.refusal.FraudRefusal.{FraudRefusal}
use Rattle.fraud.specs.declared.refusal.FraudRefusal.TheVariants.{WrongLength, OtherHash, OtherCode, Unreadable, RootNotCommitted, PlacesNotRising, DoesNotVerify, WellCoded, OtherData}

abbrev pub told : FraudRefusal → Refused
told WrongLength = plain 3
told OtherHash = plain 13
told OtherCode = plain 14
told (Unreadable e) = told_read e
told RootNotCommitted = plain 18
told PlacesNotRising = plain 19
told (DoesNotVerify i) = record { number = 20; values = i ∷ [] }
told WellCoded = plain 21
told OtherData = plain 27
