-- A record whose values and lengths were tested is written, and read back.
use Rattle.std.proofs.Common.{◌≡◌, ℕ, ◌+◌, ◌^◌, ◌<◌, Bool, true, false, ◌&&◌, eqb, [], length, Ok, sym, refl, ap, ◌∙◌, append-nil, arith}
use Rattle.std.proofs.lemmas.Bool.{eqb-true}
use Rattle.std.proofs.lemmas.Bool.Decides.{nat_tests}
use Rattle.header.specs.Fields.{Fields}
use Rattle.header.specs.Sizes.{head_len}
use Rattle.header.proofs.Measures.{Allowed}
use Rattle.wire.specs.Values.{Rec}
use Rattle.wire.specs.Reading.{in_range, is_due, reads}
use Rattle.wire.specs.Writing.{kind_of, body_of, bytes_of, parts_fit, record_len, target_fits, write_outcome, ReadsBack}
use Rattle.wire.specs.declared.due.Due.TheVariants.{Anything}
use Rattle.wire.proofs.Lengths.{body_short}
use Rattle.wire.proofs.Trips.{sound, written_reads}

pub record Fitting (h : Fields) (r : Rec) (n : ℕ) : Type 0 where
  pub short : length (body_of r) < 2 ^ 32
  pub exact : n ≡ head_len + length (body_of r)
  pub goes : write_outcome h r n ≡ Ok tt
  pub back : ReadsBack h r (bytes_of r)

both : (p q : Bool) → true ≡ (p && q) → (p ≡ true) × (q ≡ true)
both true true e = (refl, refl)
both true false e = (refl, sym e)
both false q e = let z : ◌≡◌ {A = Bool} true false = e in (sym z, grind (arith, nat_tests))

pub fitting : (h : Fields) (r : Rec) (n : ℕ) → Allowed h → true ≡ in_range h r → true ≡ target_fits h r n → Fitting h r n
unfolding is_due
fitting h r n a i t =
    let b = both (parts_fit h r) (eqb n (record_len h r)) t in
    let s = sound h r a (sym i) b.0 in
    let m = body_short h a (kind_of r) in
    let e = eqb-true n (record_len h r) b.1 in
    let w = written_reads h Anything r [] a (sym i) b.0 refl in
    record {
      short = omega (arith, s.long);
      exact = omega (arith, s.long, e);
      goes = rw (sym i, sym t) refl;
      back = ap (reads h Anything) (sym (append-nil (bytes_of r))) ∙ w;
    }
