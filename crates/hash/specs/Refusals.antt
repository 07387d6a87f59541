-- The number of each refusal of a digest. None carries a value.
use Rattle.octets.specs.Outcome.{Refused, plain}
use Rattle.hash.specs.declared.refusal.DigestRefusal.{DigestRefusal}
use Rattle.hash.specs.declared.refusal.DigestRefusal.TheVariants.{TooLong, WrongLength}

abbrev pub told : DigestRefusal → Refused
told TooLong = plain 4
told WrongLength = plain 3
