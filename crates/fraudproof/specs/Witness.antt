-- The witnesses of a proof, one by one.
use Rattle.std.specs.Prelude.{ℕ, ◌/◌, cond, List, map, length, Some, None, Option, nat_lt}
use Rattle.std.specs.List.{range_with_len}
use Rattle.header.specs.Fields.{Fields}
use Rattle.wire.specs.Values.{Witness}
use Rattle.fraudproof.specs.Proof.{witness_len, witness_at}
use Rattle.fraudproof.specs.declared.witness.Witness as parts

-- a witness by its values
abbrev pub values_of : parts.Witness → Witness
values_of w = record { place = w.place; axis = w.axis; share = w.share.now; path = w.path.now }

abbrev pub some_values : Option parts.Witness → Option Witness
some_values None = None
some_values (Some w) = Some (values_of w)

-- witness i of some records that lie one after the other; none where there are not so many
abbrev pub witness_in : Fields → List ℕ → ℕ → Option Witness
witness_in h ws i = cond (nat_lt i (length ws / witness_len h)) (Some (witness_at h ws i)) None

-- all witnesses of such records
unfoldable pub witnesses_of : Fields → List ℕ → List Witness
witnesses_of h ws = map (witness_at h ws) (range_with_len 0 (length ws / witness_len h))
