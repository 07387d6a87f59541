-- The refusals of a block file, by number and values.
use Rattle.octets.specs.Outcome.{Refused, plain}
use Rattle.wire.specs.Refusals.{told_read, refused_at}
use Rattle.blockfile.specs.declared.refusal.FileRefusal.{FileRefusal}
use Rattle.blockfile.specs.declared.refusal.FileRefusal.TheVariants.{TooLong, Read, SeenTwice}

abbrev pub told : FileRefusal → Refused
told TooLong = plain 6
told (Read e) = told_read e
told (SeenTwice at) = refused_at 12 at
