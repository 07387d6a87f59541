-- The refusals of stores, by number. None carries a value.
use Rattle.octets.specs.Outcome.{Refused, plain}
use Rattle.store.specs.declared.refusal.StoreRefusal.{StoreRefusal}
use Rattle.store.specs.declared.refusal.StoreRefusal.TheVariants.{WrongWidth, WrongShareSize, WrongLength, OutOfRange, OutsideSquare}

abbrev pub told : StoreRefusal → Refused
told WrongWidth = plain 1
told WrongShareSize = plain 2
told WrongLength = plain 3
told OutOfRange = plain 11
told OutsideSquare = plain 15
