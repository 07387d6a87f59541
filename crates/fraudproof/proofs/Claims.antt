-- The claim of a proof, and the parts of the proof that was read.
use Rattle.std.proofs.Common.{◌≡◌, ℕ, ◌+◌, ◌-◌, ◌*◌, ◌<◌, ◌≤◌, true, List, length, get_or, take, drop, Ok, Err, Result, sym, refl, ap, ◌∙◌, zero-add, arith, length-drop, length-take-le, Bor}
use Rattle.std.proofs.lemmas.Bool.{eqb-true}
use Rattle.std.proofs.lemmas.Bool.Decides.{nat_tests}
use Rattle.octets.specs.Outcome.{Refused}
use Rattle.hash.specs.Digests.{digest_len}
use Rattle.header.specs.Fields.{Fields}
use Rattle.header.specs.Sizes.{width, head_len, claim_body_len, data_path_len}
use Rattle.wire.specs.declared.due.Due.TheVariants as due
use Rattle.wire.specs.Values as values
use Rattle.wire.specs.Values.{Rec, claim}
use Rattle.wire.specs.Reading.{is_due, kind_in, body_len, body_for, record_in, in_range, reads_at}
use Rattle.wire.specs.Readers.{rest_of, spot_of}
use Rattle.wire.specs.Writing.{first_of, second_of}
use Rattle.wire.specs.Parts.{value_of, Spot, after}
use Rattle.wire.specs.declared.reader.Reader.{Reader}
use Rattle.wire.specs.declared.record.Record.{Record}
use Rattle.wire.specs.declared.record.Record.TheVariants.{Header, Roots, Group, Share, GroupEnd, Claim, Witness}
use Rattle.wire.proofs.Trips.{cut_at, behind_is}
use Rattle.fraudproof.specs.Form.{claimed, with_claim, behind_claim, witnesses_from, case_outcome}

-- the claim v that was read
pub record Read (h : Fields) (bs : List ℕ) (v : values.Claim) (rest : List ℕ) : Type 0 where
  pub axis_low : v.axis ≤ 1
  pub index_low : v.index < width h
  pub root_long : length v.root ≡ digest_len
  pub path_long : length v.path ≡ data_path_len h
  pub behind : length rest + (head_len + claim_body_len h) ≡ length bs

-- where a claim is due no other record is read
pub claim_due : (h : Fields) (at : ℕ) (bs : List ℕ) (x : Rec) (rest : List ℕ) → reads_at h due.Claim at bs ≡ Ok (x, rest) → (v : values.Claim) × (x ≡ claim v)
unfolding is_due record_in
claim_due h at bs x rest p =
    let c = cut_at h due.Claim at bs x rest p in
    let k : kind_in bs ≡ 16 = eqb-true _ 16 c.isdue in
    let b : List ℕ = take (body_len bs) (drop head_len bs) in
    let says : record_in h 16 b ≡ x = ap (λ m. record_in h m b) (sym k) ∙ c.says in
    (record { axis = get_or b 0 0; index = get_or b 1 0 + get_or b 2 0 * 256; root = take digest_len (drop 3 b); path = drop digest_len (drop 3 b) }, sym says)

pub not_claim : (x : Record) (v : values.Claim) → value_of x ≡ claim v → ((a i : ℕ) (r q : Bor (List ℕ)) → x ≡ Claim a i r q → ⊥) → ⊥
not_claim (Header k s hk ck root) v e n = let z : ◌≡◌ {A = ℕ} 0 1 = cc in omega arith
not_claim (Roots bs) v e n = let z : ◌≡◌ {A = ℕ} 0 1 = cc in omega arith
not_claim (Group a i) v e n = let z : ◌≡◌ {A = ℕ} 0 1 = cc in omega arith
not_claim (Share p s q) v e n = let z : ◌≡◌ {A = ℕ} 0 1 = cc in omega arith
not_claim GroupEnd v e n = let z : ◌≡◌ {A = ℕ} 0 1 = cc in omega arith
not_claim (Claim a i r q) v e n = n a i r q refl
not_claim (Witness p a s q) v e n = let z : ◌≡◌ {A = ℕ} 0 1 = cc in omega arith

ranges : (h : Fields) (v : values.Claim) → in_range h (claim v) ≡ true → (v.axis ≤ 1) × (v.index < width h)
unfolding in_range
ranges h v p = (grind (arith, nat_tests), grind (arith, nat_tests))

pub claim_read : (h : Fields) (at : ℕ) (bs : List ℕ) (x : Rec) (rest : List ℕ) (v : values.Claim) → reads_at h due.Claim at bs ≡ Ok (x, rest) → x ≡ claim v → Read h bs v rest
unfolding is_due body_for record_in
claim_read h at bs x rest v p is =
    let c = cut_at h due.Claim at bs x rest p in
    let k : kind_in bs ≡ 16 = eqb-true _ 16 c.isdue in
    let f : body_for h (kind_in bs) ≡ claim_body_len h = ap (body_for h) k in
    let n : body_len bs ≡ claim_body_len h = c.body ∙ f in
    let b : List ℕ = take (body_len bs) (drop head_len bs) in
    let long : length b ≡ claim_body_len h = length-take-le (body_len bs) (drop head_len bs) c.held ∙ n in
    let long3 : length (drop 3 b) ≡ digest_len + data_path_len h = length-drop 3 b ∙ omega arith in
    let says : record_in h 16 b ≡ claim v = ap (λ m. record_in h m b) (sym k) ∙ c.says ∙ is in
    let root_is : take digest_len (drop 3 b) ≡ v.root = ap first_of says in
    let path_is : drop digest_len (drop 3 b) ≡ v.path = ap second_of says in
    let r = ranges h v (ap (in_range h) (sym is) ∙ c.range) in
    let q = behind_is h due.Claim bs x rest c in
    record {
      axis_low = r.0;
      index_low = r.1;
      root_long = ap length (sym root_is) ∙ length-take-le digest_len (drop 3 b) (omega arith);
      path_long = ap length (sym path_is) ∙ length-drop digest_len (drop 3 b) ∙ omega arith;
      behind = omega (arith, ap length q.0, length-drop (head_len + body_for h (kind_in bs)) bs, q.1, f);
    }

-- its record has the body of a claim, and what is behind it is no longer than all
pub claim_long : (h : Fields) (at : ℕ) (bs : List ℕ) (x : Rec) (rest : List ℕ) → reads_at h due.Claim at bs ≡ Ok (x, rest) → (body_len bs ≡ claim_body_len h) × (length rest ≤ length bs)
unfolding is_due body_for
claim_long h at bs x rest p =
    let c = cut_at h due.Claim at bs x rest p in
    let k : kind_in bs ≡ 16 = eqb-true _ 16 c.isdue in
    let f : body_for h (kind_in bs) ≡ claim_body_len h = ap (body_for h) k in
    let q = behind_is h due.Claim bs x rest c in
    (c.body ∙ f, omega (arith, ap length q.0, length-drop (head_len + body_for h (kind_in bs)) bs))

module _ (h : Fields) (bs : List ℕ) where
  pub no_claim : (e : Refused) → Err e ≡ reads_at h due.Claim 0 bs → Err e ≡ case_outcome h bs
  unfolding case_outcome
  no_claim e p = ap (behind_claim h (length bs)) p

  pub with_claim_lem : (x : Rec) (rest : List ℕ) → Ok (x, rest) ≡ reads_at h due.Claim 0 bs → (v : values.Claim) → x ≡ claim v → (ws : Result (List values.Witness) Refused)
      → ws ≡ witnesses_from h h.k (length bs - length rest) rest → with_claim v ws ≡ case_outcome h bs
  unfolding case_outcome
  with_claim_lem x rest p v is ws e =
      ap (with_claim v) e ∙ ap (λ y. claimed y (witnesses_from h h.k (length bs - length rest) rest)) (sym is) ∙ ap (behind_claim h (length bs)) p

pub further : (p : Spot) (a b : ℕ) → after (after p a) b ≡ after p (a + b)
further p a b = let e : p.1 + a + b ≡ p.1 + (a + b) = omega arith in ap (λ n. (p.0, n)) e

-- a reader at the front of some bytes
module _ (r : Reader) (b : Bor (List ℕ)) (bytes : r.bytes ≡ b) (place : r.at ≡ 0) where
  pub from_front : (h : Fields) (o : Result (Rec × List ℕ) Refused) → o ≡ reads_at h due.Claim r.at (rest_of r) → o ≡ reads_at h due.Claim 0 b.now
  from_front h o p = p ∙ ap (λ n. reads_at h due.Claim n (drop n r.bytes.now)) place ∙ ap (λ x. reads_at h due.Claim 0 x.now) bytes

  pub front_spot : (n m : ℕ) → after (after (spot_of r) n) m ≡ after b.ref_ptr (n + m)
  front_spot n m = ap (λ i. after (after (after r.bytes.ref_ptr i) n) m) place ∙ ap (λ x. after (after (after x.ref_ptr 0) n) m) bytes ∙ further (after b.ref_ptr 0) n m ∙ further b.ref_ptr 0 (n + m) ∙ ap (after b.ref_ptr) (zero-add (n + m))

-- one that has come further
pub place_is : (r : Reader) (b : Bor (List ℕ)) → r.bytes ≡ b → r.at ≡ length b.now - length (rest_of r)
place_is r b bytes = omega (arith, ap (λ x. length x.now) bytes, length-drop r.at r.bytes.now, r.inside)
