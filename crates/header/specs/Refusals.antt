-- The refusals of this layer, by number. None carries a value.
use Rattle.octets.specs.Outcome.{Refused, plain}
use Rattle.header.specs.declared.refusal.SquareRefusal.{SquareRefusal}
use Rattle.header.specs.declared.refusal.SquareRefusal.TheVariants.{WrongWidth, WrongShareSize, WrongLength, OutOfRange, OtherHash, OutsideSquare, DoesNotVerify}

abbrev pub told : SquareRefusal → Refused
told WrongWidth = plain 1
told WrongShareSize = plain 2
told WrongLength = plain 3
told OutOfRange = plain 11
told OtherHash = plain 13
told OutsideSquare = plain 15
told DoesNotVerify = plain 20
