-- The refusals of the codes, by number.
use Rattle.octets.specs.Outcome.{Refused, plain}
use Rattle.erasure.specs.declared.refusal.CodeRefusal.{CodeRefusal}
use Rattle.erasure.specs.declared.refusal.CodeRefusal.TheVariants.{WrongWidth, WrongShareSize, WrongLength, PlacesNotRising}

abbrev pub told : CodeRefusal → Refused
told WrongWidth = plain 1
told WrongShareSize = plain 2
told WrongLength = plain 3
told PlacesNotRising = plain 5
