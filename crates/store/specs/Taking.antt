-- The evidence taken at a cell. All that is said of the use of a store is said through it.
use Rattle.std.specs.Prelude.{◌≡◌, ℕ, cond, List, length, Some, None, Ok, Err, Option, Result}
use Rattle.octets.specs.Outcome.{Refused}
use Rattle.octets.specs.Written.{written}
use Rattle.header.specs.declared.cell.Axis.{Axis}
use Rattle.header.specs.Fields.{Fields}
use Rattle.evidence.specs.Evidence.{Evidence, proves}
use Rattle.store.specs.Meaning.{Meaning}
use Rattle.store.specs.Showing.{asked, share_over, path_over}

-- an evidence where it verifies at a cell, nothing elsewhere
unfoldable pub verified_only : (List ℕ → List ℕ) → Fields → ℕ → ℕ → Option Evidence → Option Evidence
verified_only f h r c None = None
verified_only f h r c (Some e) = cond (proves f h r c e) (Some e) None

-- under a hash that means f and a header: what a store that means m shows at a cell, where that verifies
abbrev pub taken : (List ℕ → List ℕ) → Fields → Meaning → ℕ → ℕ → Option Evidence
taken f h m r c = verified_only f h r c (m.at r c)

-- a question that is refused brings nothing
abbrev pub brought : Result (Unit {0}) Refused → Option Evidence → Option Evidence
brought (Ok t) v = v
brought (Err e) v = None

-- the evidence in hand: by this axis, with what two buffers hold
abbrev pub in_hand : Option Axis → List ℕ → List ℕ → Option Evidence
in_hand None share path = None
in_hand (Some axis) share path = Some (record { axis = axis; share = share; path = path })

-- what taking the evidence at a cell gives, from a store in order that means m: the axis and the buffers after are the evidence taken.
-- The buffers hold what the store showed.
pub record Takes (f : List ℕ → List ℕ) (h : Fields) (m m' : Meaning) (order : Type 0) (r c : ℕ) (share path : List ℕ) (axis : Option Axis) (share' path' : List ℕ) : Type 0 where
  pub gives : in_hand axis share' path' ≡ brought (asked m.k m.s r c (length share) (length path)) (taken f h m r c)
  pub share_is : share' ≡ written (asked m.k m.s r c (length share) (length path)) (share_over (m.at r c) share) share
  pub path_is : path' ≡ written (asked m.k m.s r c (length share) (length path)) (path_over (m.at r c) path) path
  pub same : m' ≡ m
  pub kept : order
