-- The refusals of records, by number and values.
use Rattle.std.specs.Prelude.{ℕ, [], ◌∷◌}
use Rattle.octets.specs.Outcome.{Refused, plain}
use Rattle.wire.specs.declared.refusal.Fault.{Fault}
use Rattle.wire.specs.declared.refusal.Fault.TheVariants.{CutShort, UnknownKind, NotDue, WrongBody, OutOfRange}
use Rattle.wire.specs.declared.refusal.ReadRefusal.{ReadRefusal}
use Rattle.wire.specs.declared.refusal.WriteRefusal as writing
use Rattle.wire.specs.declared.refusal.WriteRefusal.TheVariants as writes

abbrev pub fault_number : Fault → ℕ
fault_number CutShort = 7
fault_number UnknownKind = 8
fault_number NotDue = 10
fault_number WrongBody = 9
fault_number OutOfRange = 11

-- a fault by itself, and a fault with the byte place of its record
abbrev pub told_fault : Fault → Refused
told_fault e = plain (fault_number e)

abbrev pub refused_at : ℕ → ℕ → Refused
refused_at n at = record { number = n; values = at ∷ [] }

abbrev pub told_read : ReadRefusal → Refused
told_read e = refused_at (fault_number e.fault) e.at

abbrev pub told_write : writing.WriteRefusal → Refused
told_write writes.OutOfRange = plain 11
told_write writes.WrongLength = plain 3
