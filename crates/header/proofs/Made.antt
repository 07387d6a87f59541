-- A header that was made has an allowed k and an allowed share size, and holds what it was made of.
use Rattle.std.proofs.Common.{◌≡◌, ℕ, Bool, true, false, cond, not, eqb, length, Ok, Err, Result, refl, arith}
use Rattle.octets.specs.Outcome.{Refused, plain}
use Rattle.hash.specs.Digests.{digest_len}
use Rattle.erasure.specs.Limits.{ok_width, ok_size}
use Rattle.header.specs.Fields.{Fields, header_outcome}

never : {A : Type 0} (y : Fields) (e : Refused) → ◌≡◌ {A = Result Fields Refused} (Ok y) (Err e) → A
never y e p = let z : ◌≡◌ {A = ℕ} 0 1 = cc in absurd (omega arith)

pub record Made (x y : Fields) : Type 0 where
  pub wide : ok_width x.k ≡ true
  pub sized : ok_size x.s ≡ true
  pub same : y ≡ x

made_by : (w z l : Bool) (x y : Fields) → ◌≡◌ {A = Result Fields Refused} (Ok y) (cond (not w) (Err (plain 1)) (cond (not z) (Err (plain 2)) (cond (not l) (Err (plain 3)) (Ok x))))
    → (w ≡ true) × ((z ≡ true) × (y ≡ x))
made_by false z l x y e = never y (plain 1) e
made_by true false l x y e = never y (plain 2) e
made_by true true false x y e = never y (plain 3) e
made_by true true true x y e = (refl, (refl, cc))

pub made : (x y : Fields) → ◌≡◌ {A = Result Fields Refused} (Ok y) (header_outcome x) → Made x y
made x y e =
    let m = made_by (ok_width x.k) (ok_size x.s) (eqb (length x.data_root) digest_len) x y e in
    record { wide = m.0; sized = m.1.0; same = m.1.1 }
