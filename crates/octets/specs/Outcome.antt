-- How every call of the library answers. A call gives something, or it refuses, by a number and by the values that go with that
-- number (a byte place, a witness). Each layer has its own enum of refusals and one definition, `told`, that gives every case its
-- number and its values; contracts speak of a call's result through that definition, by `outcome told`.
use Rattle.std.specs.Prelude.{ℕ, List, [], Ok, Err, Result}

pub record Refused : Type 0 where
  pub number : ℕ
  pub values : List ℕ

-- a refusal that says its number and nothing more
abbrev pub plain : ℕ → Refused
plain n = record { number = n; values = [] }

-- what a call answers, its refusal told by number and values
abbrev pub outcome : {A E : Type 0} → (E → Refused) → Result A E → Result A Refused
outcome told (Ok x) = Ok x
outcome told (Err e) = Err (told e)

-- the same where what the call gives is seen by a view of it
abbrev pub outcome_by : {A B E : Type 0} → (A → B) → (E → Refused) → Result A E → Result B Refused
outcome_by view told (Ok x) = Ok (view x)
outcome_by view told (Err e) = Err (told e)
