-- A record is what its head and its body are read as.
use Rattle.std.proofs.Common.{◌≡◌, ℕ, ◌-◌, ◌<◌, ◌≤◌, true, false, eqb, List, length, take, drop, Ok, Err, Result, sym, ap, ◌∙◌, arith}
use Rattle.std.proofs.lemmas.List.{take_rest}
use Rattle.std.proofs.lemmas.Bool.{lt-ltb, le-ltb, cond-true, cond-false}
use Rattle.octets.specs.Outcome.{Refused, plain}
use Rattle.header.specs.Fields.{Fields}
use Rattle.wire.specs.declared.due.Due.{Due}
use Rattle.wire.specs.Refusals.{refused_at}
use Rattle.wire.specs.Values.{Rec}
use Rattle.wire.specs.Reading.{body_len, kind_in, record_in, in_range, admitted, ranged, after_head, reads, placed, reads_at}

-- the six bytes of a head are not there
pub no_head : (h : Fields) (due : Due) (bs : List ℕ) → length bs < 6 → Err (plain 7) ≡ reads h due bs
unfolding reads
no_head h due bs n = sym (cond-true _ _ _ (lt-ltb (length bs) 6 n))

module _ (h : Fields) (due : Due) (bs rest : List ℕ) (len kind : ℕ) (long : 6 ≤ length bs) (rest_is : rest ≡ take (length bs - 6) (drop 6 bs)) (len_is : len ≡ body_len bs) where
  behind : rest ≡ drop 6 bs
  behind = rest_is ∙ take_rest bs 6

  pub no_body : length rest < len → Err (plain 7) ≡ reads h due bs
  unfolding reads
  no_body n =
      let m : length (drop 6 bs) < body_len bs = omega (arith, ap length behind, len_is) in
      sym (cond-false _ _ _ (le-ltb (length bs) 6 long) ∙ cond-true _ _ _ (lt-ltb (length (drop 6 bs)) (body_len bs) m))

  -- past the tests of the lengths
  past : len ≤ length rest → reads h due bs ≡ after_head (admitted h due (kind_in bs) (body_len bs)) (ranged h (record_in h (kind_in bs) (take (body_len bs) (drop 6 bs))) (drop (body_len bs) (drop 6 bs)))
  unfolding reads
  past n =
      let m : body_len bs ≤ length (drop 6 bs) = omega (arith, ap length behind, len_is) in
      cond-false _ _ _ (le-ltb (length bs) 6 long) ∙ cond-false _ _ _ (le-ltb (length (drop 6 bs)) (body_len bs) m)

  pub not_admitted : len ≤ length rest → kind ≡ kind_in bs → (e : Refused) → Err e ≡ admitted h due kind len → Err e ≡ reads h due bs
  not_admitted n kind_is e p =
      let q : admitted h due (kind_in bs) (body_len bs) ≡ Err e = ap (λ k. admitted h due k (body_len bs)) (sym kind_is) ∙ ap (admitted h due kind) (sym len_is) ∙ sym p in
      sym (past n ∙ ap (λ x. after_head x (ranged h (record_in h (kind_in bs) (take (body_len bs) (drop 6 bs))) (drop (body_len bs) (drop 6 bs)))) q)

  pub admitted_is : len ≤ length rest → kind ≡ kind_in bs → Ok tt ≡ admitted h due kind len → (x : Rec) → x ≡ record_in h kind (take (len - 0) rest)
      → (after : List ℕ) → after ≡ take (length rest - len) (drop len rest) → ranged h x after ≡ reads h due bs
  admitted_is n kind_is p x x-is after after_is =
      let q : admitted h due (kind_in bs) (body_len bs) ≡ Ok tt = ap (λ k. admitted h due k (body_len bs)) (sym kind_is) ∙ ap (admitted h due kind) (sym len_is) ∙ sym p in
      let z : len - 0 ≡ body_len bs = omega (arith, len_is) in
      let ex : x ≡ record_in h (kind_in bs) (take (body_len bs) (drop 6 bs)) = x-is ∙ ap (λ k. record_in h k (take (len - 0) rest)) kind_is ∙ ap (λ m. record_in h (kind_in bs) (take m rest)) z ∙ ap (λ l. record_in h (kind_in bs) (take (body_len bs) l)) behind in
      let ea : after ≡ drop (body_len bs) (drop 6 bs) = after_is ∙ take_rest rest len ∙ ap (λ m. drop m rest) len_is ∙ ap (drop (body_len bs)) behind in
      sym (past n ∙ ap (λ y. after_head y (ranged h (record_in h (kind_in bs) (take (body_len bs) (drop 6 bs))) (drop (body_len bs) (drop 6 bs)))) q
      ∙ ap (λ y. ranged h y (drop (body_len bs) (drop 6 bs))) (sym ex) ∙ ap (ranged h x) (sym ea))

pub out_of_range : (h : Fields) (x : Rec) (after : List ℕ) → false ≡ in_range h x → ranged h x after ≡ Err (plain 11)
out_of_range h x after p = cond-false _ _ _ (sym p)

pub in_its_range : (h : Fields) (x : Rec) (after : List ℕ) → true ≡ in_range h x → ranged h x after ≡ Ok (x, after)
in_its_range h x after p = cond-true _ _ _ (sym p)

pub at_end : (h : Fields) (due : Due) (at : ℕ) (bs : List ℕ) → true ≡ eqb (length bs) 0 → Err (refused_at 10 at) ≡ reads_at h due at bs
unfolding reads_at
at_end h due at bs e = sym (cond-true _ _ _ (sym e))

pub before_end : (h : Fields) (due : Due) (at : ℕ) (bs : List ℕ) → false ≡ eqb (length bs) 0 → (x : Result (Rec × List ℕ) Refused) → x ≡ reads h due bs → placed at x ≡ reads_at h due at bs
unfolding reads_at
before_end h due at bs e x p = ap (placed at) p ∙ sym (cond-false _ _ _ (sym e))
