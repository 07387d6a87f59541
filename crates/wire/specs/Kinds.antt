-- The kinds of records, by number.
use Rattle.std.specs.Prelude.{◌≡◌, ℕ, cond, Ok, Err, Result}
use Rattle.octets.specs.Outcome.{plain, outcome_by}
use Rattle.wire.specs.Reading.{is_known}
use Rattle.wire.specs.Refusals.{told_fault}
use Rattle.wire.specs.declared.kind.Kind.{Kind}
use Rattle.wire.specs.declared.kind.Kind.TheVariants.{Header, Roots, Group, Share, GroupEnd, Claim, Witness}
use Rattle.wire.specs.declared.refusal.Fault.{Fault}

-- the number that stands for a kind
abbrev pub code_of : Kind → ℕ
code_of Header = 1
code_of Roots = 2
code_of Group = 3
code_of Share = 4
code_of GroupEnd = 5
code_of Claim = 16
code_of Witness = 17

-- a number of a known kind names that kind, and any other is refused by 8
abbrev pub Named : ℕ → Result Kind Fault → Type 0
Named n r = outcome_by code_of told_fault r ≡ cond (is_known n) (Ok n) (Err (plain 8))

-- that a kind was admitted, whichever it is
abbrev pub anything : Kind → Unit {0}
anything kind = tt
