-- Nothing is refused exactly if the proof condemns the block.
use Rattle.std.proofs.Common.{◌≡◌, ℕ, Bool, true, false, cond, not, List, [], ◌∷◌, length, Some, None, Ok, Err, Option, Result, sym, refl, ap, ◌∙◌, arith}
use Rattle.std.specs.Str.{bytes_eq}
use Rattle.std.proofs.lemmas.Bool.{both_ways}
use Rattle.octets.specs.Outcome.{Refused, plain}
use Rattle.merkle.proofs.Bound.{same_true, same_false}
use Rattle.codes.specs.Code.{Table, Weight, SecondLaw}
use Rattle.codes.specs.Words.{Through}
use Rattle.codes.proofs.Words.{through_only}
use Rattle.erasure.specs.Limits.{ok_width}
use Rattle.erasure.specs.Places.{rising_below}
use Rattle.erasure.proofs.Bounds.{width_most}
use Rattle.erasure.proofs.Rises.{rising_places}
use Rattle.header.specs.Fields.{Fields}
use Rattle.header.specs.Sizes.{width, depth}
use Rattle.commitment.specs.Values.{value_root}
use Rattle.fraudproof.specs.Proof.{Case}
use Rattle.fraud.specs.Accepted.{is_committed, vouches, places_of, shares_of, Condemns}
use Rattle.fraud.specs.Check.{first_failing, unverified, word_by, word_root, judged, Decides}
use Rattle.fraud.proofs.Cases.{none_fails, every_stands, places_length}

pub never_ok : {A : Type 0} (e : Refused) → ◌≡◌ {A = Result (Unit {0}) Refused} (Err e) (Ok tt) → A
never_ok e p = absurd (let z : ◌≡◌ {A = ℕ} 0 1 = cc in omega arith)

pub some_none : {A : Type 0} (i : ℕ) → ◌≡◌ {A = Option ℕ} (Some i) None → A
some_none i p = absurd (let z : ◌≡◌ {A = ℕ} 0 1 = cc in omega arith)

-- of the four tests in a row
abbrev chain : Bool → Bool → Option ℕ → Bool → Result (Unit {0}) Refused
chain a b o d = cond (not a) (Err (plain 18)) (cond (not b) (Err (plain 19)) (unverified o (cond d (Err (plain 21)) (Ok tt))))

record Passed (a b : Bool) (o : Option ℕ) (d : Bool) : Type 0 where
  first : a ≡ true
  second : b ≡ true
  third : o ≡ None
  fourth : d ≡ false

passes : (a b : Bool) (o : Option ℕ) (d : Bool) → chain a b o d ≡ Ok tt → Passed a b o d
passes false b o d e = never_ok (plain 18) e
passes true false o d e = never_ok (plain 19) e
passes true true (Some i) d e = never_ok _ e
passes true true None true e = never_ok (plain 21) e
passes true true None false e = record { first = refl; second = refl; third = refl; fourth = refl }

passed : (a b : Bool) (o : Option ℕ) (d : Bool) → a ≡ true → b ≡ true → o ≡ None → d ≡ false → chain a b o d ≡ Ok tt
passed a b o d p q r t =
    ap (λ x. chain x b o d) p ∙ ap (λ x. chain true x o d) q ∙ ap (λ x. chain true true x d) r ∙ ap (λ x. chain true true None x) t

module _ (f : List ℕ → List ℕ) (W : Weight) (h : Fields) (p : Case) (a : is_committed f h p.claim ≡ true)
    (b : rising_below (width h) (places_of p.witnesses) ≡ true) where
  abbrev after : Option ℕ → Bool → Result (Unit {0}) Refused
  after o d = chain (is_committed f h p.claim) (rising_below (width h) (places_of p.witnesses)) o d

  so_far : (o : Option ℕ) (d : Bool) → after o d ≡ chain true true o d
  so_far o d = ap (λ x. chain x (rising_below (width h) (places_of p.witnesses)) o d) a ∙ ap (λ x. chain true x o d) b

  pub judged_unverified : (i : ℕ) → first_failing (vouches f h p.claim) 0 p.witnesses ≡ Some i
      → ◌≡◌ {A = Result (Unit {0}) Refused} (Err (record { number = 20; values = i ∷ [] })) (judged f W h p)
  judged_unverified i e =
      sym (ap (λ o. after o (bytes_eq (word_root f W h p.witnesses) p.claim.root)) e ∙ so_far (Some i) (bytes_eq (word_root f W h p.witnesses) p.claim.root))

  pub judged_last : first_failing (vouches f h p.claim) 0 p.witnesses ≡ None → (d : Bool) → bytes_eq (word_root f W h p.witnesses) p.claim.root ≡ d
      → cond d (Err (plain 21)) (Ok tt) ≡ judged f W h p
  judged_last e d s =
      sym (ap (λ o. after o (bytes_eq (word_root f W h p.witnesses) p.claim.root)) e ∙ so_far None (bytes_eq (word_root f W h p.witnesses) p.claim.root) ∙ ap (λ x. chain true true None x) s)

module _ (f : List ℕ → List ℕ) (T : Table) (W : Weight) (second : SecondLaw T) (h : Fields) (wide : ok_width h.k ≡ true) (p : Case)
    (many : length p.witnesses ≡ h.k) where
  abbrev word : List ℕ
  word = word_by W h.k h.s (places_of p.witnesses) (shares_of p.witnesses)

  -- where the witnesses stand, the word worked out is the codeword through them
  abbrev pub Worked : Type 0
  Worked =
      rising_below (width h) (places_of p.witnesses) ≡ true → first_failing (vouches f h p.claim) 0 p.witnesses ≡ None
      → Through T h.k h.s (places_of p.witnesses) (shares_of p.witnesses) word

  pub decides : Worked → Decides f T h p (judged f W h p)
  decides worked = record { sound = sound; complete = complete }
    where
      sound : judged f W h p ≡ Ok tt → Condemns f T h p
      sound e =
          let s = passes (is_committed f h p.claim) (rising_below (width h) (places_of p.witnesses))
          (first_failing (vouches f h p.claim) 0 p.witnesses) (bytes_eq (word_root f W h p.witnesses) p.claim.root) e in
          let places = rising_places h.k (places_of p.witnesses) (places_length p.witnesses ∙ many) s.second in
          record {
            committed = s.first;
            many = many;
            rising = s.second;
            verified = none_fails (vouches f h p.claim) 0 p.witnesses s.third;
            other = λ ws t r.
                let same : ws ≡ word = through_only T second h.k h.s (omega (arith, width_most h.k wide)) (places_of p.witnesses) (shares_of p.witnesses) ws word places t (worked s.second s.third) in
                both_ways (bytes_eq (word_root f W h p.witnesses) p.claim.root) s.fourth
                (same_true (word_root f W h p.witnesses) p.claim.root (ap (value_root f (depth h) h.s) (sym same) ∙ r));
          }

      complete : Condemns f T h p → judged f W h p ≡ Ok tt
      complete c =
          let stands = every_stands (vouches f h p.claim) 0 p.witnesses c.verified in
          passed (is_committed f h p.claim) (rising_below (width h) (places_of p.witnesses))
          (first_failing (vouches f h p.claim) 0 p.witnesses) (bytes_eq (word_root f W h p.witnesses) p.claim.root)
          c.committed c.rising stands
          (same_false (word_root f W h p.witnesses) p.claim.root (c.other word (worked c.rising stands)))
