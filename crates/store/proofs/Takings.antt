-- What is shown, verified or not.
use Rattle.std.proofs.Common.{◌≡◌, ℕ, Bool, true, false, cond, List, length, Some, None, Ok, Err, Option, Result, sym, refl, ap, ◌∙◌, arith}
use Rattle.std.specs.Bool.{then_some}
use Rattle.std.specs.Result.{result_unwrap_or}
use Rattle.octets.specs.Outcome.{Refused, outcome}
use Rattle.octets.specs.Written.{written}
use Rattle.header.specs.declared.cell.Axis.{Axis}
use Rattle.header.specs.Fields.{Fields}
use Rattle.evidence.specs.Evidence.{Evidence, verifies, proves}
use Rattle.store.specs.declared.refusal.StoreRefusal.{StoreRefusal}
use Rattle.store.specs.Refusals.{told}
use Rattle.store.specs.Meaning.{Meaning}
use Rattle.store.specs.Showing.{asked, share_over, path_over, answer_to, Shows}
use Rattle.store.specs.Taking.{verified_only, taken, brought, in_hand, Takes}

-- ---- a question q that meets v at its cell

never : {A : Type 0} → ◌≡◌ {A = ℕ} 0 1 → A
never z = absurd (omega arith)

-- an axis is answered
hand_some : (q : Result (Unit {0}) Refused) (v : Option Evidence) (axis : Axis) (share path share' path' : List ℕ) → ◌≡◌ {A = Result (Option Axis) Refused} (Ok (Some axis)) (answer_to q v)
    → share' ≡ written q (share_over v share) share → path' ≡ written q (path_over v path) path → brought q v ≡ in_hand (Some axis) share' path'
hand_some (Ok t) (Some e) axis share path share' path' a s p = let x : axis ≡ e.axis = cc in rw (x, s, p) refl
hand_some (Ok t) None axis share path share' path' a s p = never (cc)
hand_some (Err e) v axis share path share' path' a s p = never (cc)

-- something else is answered
hand_none : (q : Result (Unit {0}) Refused) (v : Option Evidence) (x : Result (Option Axis) StoreRefusal) → ((axis : Axis) → x ≡ Ok (Some axis) → ⊥) → outcome told x ≡ answer_to q v → brought q v ≡ None
hand_none (Ok t) None x none a = refl
hand_none (Err e) v x none a = refl
hand_none (Ok t) (Some e) (Ok (Some axis)) none a = absurd (none axis refl)
hand_none (Ok t) (Some e) (Ok None) none a = never (cc)
hand_none (Ok t) (Some e) (Err d) none a = never (cc)

-- what the value is where a refusal counts as nothing
pub value_some : (x : Result (Option Axis) StoreRefusal) (axis : Axis) → Some axis ≡ result_unwrap_or x None → x ≡ Ok (Some axis)
value_some (Ok v) axis e = ap Ok (sym e)
value_some (Err d) axis e = never (cc)

pub value_none : (x : Result (Option Axis) StoreRefusal) (axis : Axis) → None ≡ result_unwrap_or x None → x ≡ Ok (Some axis) → ⊥
value_none x axis e is = let p : None ≡ Some axis = e ∙ ap (λ y. result_unwrap_or y None) is in never (cc)

module _ (f : List ℕ → List ℕ) (h : Fields) (r c : ℕ) where
  -- it does not matter whether what is brought is verified or what is verified is brought
  brought_verified : (q : Result (Unit {0}) Refused) (v : Option Evidence) → brought q (verified_only f h r c v) ≡ verified_only f h r c (brought q v)
  unfolding verified_only
  brought_verified (Ok t) v = refl
  brought_verified (Err e) v = refl

  verified_by : (v : Option Evidence) (e : Evidence) (b : Bool) → v ≡ Some e → proves f h r c e ≡ b → verified_only f h r c v ≡ cond b (Some e) None
  unfolding verified_only
  verified_by v e b is t = ap (verified_only f h r c) is ∙ ap (λ x. cond x (Some e) None) t

  verified_none : (v : Option Evidence) → v ≡ None → verified_only f h r c v ≡ None
  unfolding verified_only
  verified_none v is = ap (verified_only f h r c) is

  module _ (m m' : Meaning) (order : Type 0) (share path share' path' : List ℕ) (x : Result (Option Axis) StoreRefusal) (shows : Shows m m' order r c share path (outcome told x) share' path') where
    takes : (axis : Option Axis) → in_hand axis share' path' ≡ brought (asked m.k m.s r c (length share) (length path)) (taken f h m r c)
        → Takes f h m m' order r c share path axis share' path'
    takes axis e = record { gives = e; share_is = shows.share_is; path_is = shows.path_is; same = shows.same; kept = shows.kept }

    in_hand_verified : (axis : Axis) (b : Bool) → Some axis ≡ result_unwrap_or x None → b ≡ verifies f h r c axis share' path'
        → cond b (in_hand (Some axis) share' path') None ≡ brought (asked m.k m.s r c (length share) (length path)) (taken f h m r c)
    in_hand_verified axis b is t =
        sym (brought_verified (asked m.k m.s r c (length share) (length path)) (m.at r c)
        ∙ verified_by _ (record { axis = axis; share = share'; path = path' }) b
        (hand_some _ (m.at r c) axis share path share' path' (sym (ap (outcome told) (value_some x axis is)) ∙ shows.answers) shows.share_is shows.path_is) (sym t))

    pub takes_verified : (axis : Axis) (b : Bool) → Some axis ≡ result_unwrap_or x None → b ≡ verifies f h r c axis share' path'
        → (given : Option Axis) → given ≡ then_some b axis → Takes f h m m' order r c share path given share' path'
    takes_verified axis true is t given e = takes given (ap (λ o. in_hand o share' path') e ∙ in_hand_verified axis true is t)
    takes_verified axis false is t given e = takes given (ap (λ o. in_hand o share' path') e ∙ in_hand_verified axis false is t)

    pub takes_none : None ≡ result_unwrap_or x None → (axis : Option Axis) → axis ≡ None → Takes f h m m' order r c share path axis share' path'
    takes_none none axis is =
        takes axis
        (ap (λ o. in_hand o share' path') is
        ∙ sym (brought_verified (asked m.k m.s r c (length share) (length path)) (m.at r c) ∙ verified_none _ (hand_none _ (m.at r c) x (λ a. value_none x a none) shows.answers)))
