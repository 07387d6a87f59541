-- Questions that are refused, and questions that are answered.
use Rattle.std.proofs.Common.{◌≡◌, ℕ, ◌*◌, ◌<◌, Bool, true, false, cond, not, eqb, ltb, List, length, Ok, Err, Option, Result, sym, refl, ap, ◌∙◌, subst, ap₂, arith}
use Rattle.std.proofs.lemmas.Bool.{and_parts, eqb-true, ltb-true, lt-ltb, eq-eqb}
use Rattle.octets.specs.Outcome.{Refused, plain, outcome}
use Rattle.octets.specs.Written.{written}
use Rattle.erasure.specs.Limits.{ok_width, ok_size}
use Rattle.header.specs.declared.cell.Axis.{Axis}
use Rattle.header.specs.Fields.{Fields, shape, header_outcome}
use Rattle.header.specs.Sizes.{has_cell, path_len}
use Rattle.header.proofs.Made.{made}
use Rattle.evidence.specs.Evidence.{Evidence, evidence_fits}
use Rattle.store.specs.Meaning.{Meaning, Bounded, block}
use Rattle.store.specs.declared.refusal.StoreRefusal.{StoreRefusal}
use Rattle.store.specs.Refusals.{told}
use Rattle.store.specs.Showing.{question_outcome, asked, axis_of, share_over, path_over, answer_to, Shows, Untouched}

-- a question asked of a header that was made of the k and the share size
pub question_by : (k s r c n p : ℕ) (h : Fields) → Ok h ≡ header_outcome (shape k s) → (inside fits : Bool) → inside ≡ has_cell h r c → fits ≡ evidence_fits h n p
    → question_outcome k s r c n p ≡ cond (not inside) (Err (plain 15)) (cond (not fits) (Err (plain 3)) (Ok tt))
unfolding asked
question_by k s r c n p h e inside fits i f =
    let m = made (shape k s) h e in
    ap₂ (λ w z. cond (not w) (Err (plain 1)) (cond (not z) (Err (plain 2)) (asked k s r c n p))) m.wide m.sized
    ∙ ap (λ (x : Fields). cond (not (has_cell x r c)) (Err (plain 15)) (cond (not (evidence_fits x n p)) (Err (plain 3)) (Ok tt))) (sym m.same)
    ∙ ap₂ (λ x y. cond (not x) (Err (plain 15)) (cond (not y) (Err (plain 3)) (Ok tt))) (sym i) (sym f)

-- with an allowed k and share size a question is refused by 15 and 3 alone
pub question_is : (m : Meaning) → Bounded m → (k s r c n p : ℕ) → k ≡ m.k → s ≡ m.s → question_outcome k s r c n p ≡ asked m.k m.s r c n p
question_is m b k s r c n p ek es =
    ap (λ v. cond (not (ok_width v)) (Err (plain 1)) (cond (not (ok_size s)) (Err (plain 2)) (asked v s r c n p))) ek
    ∙ ap (λ v. cond (not (ok_width m.k)) (Err (plain 1)) (cond (not (ok_size v)) (Err (plain 2)) (asked m.k v r c n p))) es
    ∙ ap (λ v. cond (not v) (Err (plain 1)) (cond (not (ok_size m.s)) (Err (plain 2)) (asked m.k m.s r c n p))) b.0
    ∙ ap (λ v. cond (not v) (Err (plain 2)) (asked m.k m.s r c n p)) b.1

-- what follows of a question that is not refused
pub record Admitted (k s r c n p : ℕ) : Type 0 where
  pub row : r < 2 * k
  pub col : c < 2 * k
  pub share : n ≡ s
  pub path : p ≡ path_len (block k s)

never_ok : {A : Type 0} (e : Refused) → ◌≡◌ {A = Result (Unit {0}) Refused} (Err e) (Ok tt) → A
never_ok e p = let z : ◌≡◌ {A = ℕ} 0 1 = cc in absurd (omega arith)

both_tests : (a b : Bool) → ◌≡◌ {A = Result (Unit {0}) Refused} (cond (not a) (Err (plain 15)) (cond (not b) (Err (plain 3)) (Ok tt))) (Ok tt) → (a ≡ true) × (b ≡ true)
both_tests false b h = never_ok (plain 15) h
both_tests true false h = never_ok (plain 3) h
both_tests true true h = (refl, refl)

pub admitted : (k s r c n p : ℕ) → asked k s r c n p ≡ Ok tt → Admitted k s r c n p
unfolding asked
admitted k s r c n p h =
    let t = both_tests (has_cell (block k s) r c) (evidence_fits (block k s) n p) h in
    let a = and_parts (ltb r (2 * k)) (ltb c (2 * k)) t.0 in
    let b = and_parts (eqb n s) (eqb p (path_len (block k s))) t.1 in
    record {
      row = ltb-true r (2 * k) a.0;
      col = ltb-true c (2 * k) a.1;
      share = eqb-true n s b.0;
      path = eqb-true p (path_len (block k s)) b.1;
    }

-- the cell is inside
pub inside : (k s r c n p : ℕ) → asked k s r c n p ≡ Ok tt → has_cell (block k s) r c ≡ true
unfolding asked
inside k s r c n p h = (both_tests (has_cell (block k s) r c) (evidence_fits (block k s) n p) h).0

pub admit : (k s r c n p : ℕ) → r < 2 * k → c < 2 * k → n ≡ s → p ≡ path_len (block k s) → asked k s r c n p ≡ Ok tt
unfolding asked
admit k s r c n p hr hc hn hp = rw (lt-ltb r (2 * k) hr, lt-ltb c (2 * k) hc, eq-eqb n s hn, eq-eqb p (path_len (block k s)) hp)

module _ (m : Meaning) (r c : ℕ) (share path : List ℕ) where
  -- a refused question
  pub shows_refused : (e : StoreRefusal) (order : Type 0) (answer : Result (Option Axis) StoreRefusal) → asked m.k m.s r c (length share) (length path) ≡ Err (told e)
      → answer ≡ Err e → order → Shows m m order r c share path (outcome told answer) share path
  shows_refused e order answer q a o = record {
    answers = ap (outcome told) a ∙ sym (ap (λ x. answer_to x (m.at r c)) q);
    share_is = sym (ap (λ x. written x (share_over (m.at r c) share) share) q);
    path_is = sym (ap (λ x. written x (path_over (m.at r c) path) path) q);
    same = refl;
    kept = o;
  }

  module _ (free : asked m.k m.s r c (length share) (length path) ≡ Ok tt) where
    -- a question that is answered by what is at the cell
    pub shows_this : (v : Option Evidence) → m.at r c ≡ v → (m' : Meaning) (order : Type 0) (answer : Result (Option Axis) Refused) (share' path' : List ℕ)
        → answer ≡ Ok (axis_of v) → share' ≡ share_over v share → path' ≡ path_over v path → m' ≡ m → order → Shows m m' order r c share path answer share' path'
    shows_this v h m' order answer share' path' a s p same o = record {
      answers = a ∙ ap (λ x. Ok (axis_of x)) (sym h) ∙ sym (ap (λ x. answer_to x (m.at r c)) free);
      share_is = s ∙ ap (λ x. share_over x share) (sym h) ∙ sym (ap (λ x. written x (share_over (m.at r c) share) share) free);
      path_is = p ∙ ap (λ x. path_over x path) (sym h) ∙ sym (ap (λ x. written x (path_over (m.at r c) path) path) free);
      same = same;
      kept = o;
    }

    pub shows_free : (m' : Meaning) (order : Type 0) (answer : Result (Option Axis) Refused) (share' path' : List ℕ)
        → Shows m m' order r c share path answer share' path' → (answer ≡ Ok (axis_of (m.at r c))) × ((share' ≡ share_over (m.at r c) share) × (path' ≡ path_over (m.at r c) path))
    shows_free m' order answer share' path' x = (
      x.answers ∙ ap (λ q. answer_to q (m.at r c)) free,
      (
        x.share_is ∙ ap (λ q. written q (share_over (m.at r c) share) share) free,
        x.path_is ∙ ap (λ q. written q (path_over (m.at r c) path) path) free,
      ),
    )

-- the store of a question that is answered may be any
pub untouched_free : {S : Type 0} (q : Result (Unit {0}) Refused) (before after : S) → q ≡ Ok tt → Untouched q before after
untouched_free q before after e = subst (λ x. Untouched x before after) (sym e) tt

-- and of one that is refused it is the same
pub untouched_same : {S : Type 0} (q : Result (Unit {0}) Refused) (store : S) → Untouched q store store
untouched_same (Ok t) store = tt
untouched_same (Err e) store = refl
