use Rattle.std.proofs.Common.{◌≡◌, ℕ, ◌≤◌, eqb, List, length, Ok, Err, Result, sym, refl, subst, arith}
use Rattle.std.proofs.lemmas.Bool.{and_left, and_right, and_from, eq-eqb, ne_eqb}
use Rattle.octets.specs.Outcome.{Refused, plain}
use Rattle.codes.specs.Code.{Places}
use Rattle.codes.specs.Words.{at, Through}
use Rattle.erasure.specs.Calls.{fitting, recover_outcome}
use Rattle.erasure.proofs.Bounds.{width_most, size_most}
use Rattle.erasure.proofs.Rises.{rising_places}
use Rattle.erasure.proofs.Recovers.{recover_width, recover_size, recover_length, recover_rise, recover_fine, fills, not_both, gives_back, no_other}
use Rattle.erasure.proofs.calls.recover.Goals as goal
use Rattle.erasure.proofs.calls.recover.Goals.{then-places-k-via-then-places-k, then-places-k-via-else-places-k+then-not-lengths_fit}

pub returns-then-not-ok_width : goal.returns-then-not-ok_width
returns-then-not-ok_width g c =
    let o : Result (Unit {0}) Refused = recover_outcome c.args.k c.args.s c.args.places.now (length c.args.shares.now) (length c.args.out.now) in
    let e : o ≡ Err (plain 1) = recover_width c.args.k c.args.s c.args.places.now (length c.args.shares.now) (length c.args.out.now) (sym c.if-not-ok_width.ensures) in
    record {
      answer = sym e;
      refused = λ _ _. refl;
      through = λ h. absurd (not_both o (plain 1) tt e h);
      only = λ h. absurd (not_both o (plain 1) tt e h);
      back = λ h. absurd (not_both o (plain 1) tt e h);
    }

pub returns-then-not-ok_size : goal.returns-then-not-ok_size
returns-then-not-ok_size g c =
    let o : Result (Unit {0}) Refused = recover_outcome c.args.k c.args.s c.args.places.now (length c.args.shares.now) (length c.args.out.now) in
    let e : o ≡ Err (plain 2) = recover_size c.args.k c.args.s c.args.places.now (length c.args.shares.now) (length c.args.out.now) (sym c.if-not-ok_width.ensures) (sym c.if-not-ok_size.ensures) in
    record {
      answer = sym e;
      refused = λ _ _. refl;
      through = λ h. absurd (not_both o (plain 2) tt e h);
      only = λ h. absurd (not_both o (plain 2) tt e h);
      back = λ h. absurd (not_both o (plain 2) tt e h);
    }

pub lengths_fit-requires : goal.lengths_fit-requires
lengths_fit-requires g c =
    let w : c.args.k ≤ 32 = width_most c.args.k (sym c.if-not-ok_width.ensures) in
    let z : c.args.s ≤ 512 = size_most c.args.s (sym c.if-not-ok_size.ensures) in
    (omega arith, omega arith)

pub returns-then-places-k : goal.returns-then-places-k
returns-then-places-k g c =
    let o : Result (Unit {0}) Refused = recover_outcome c.args.k c.args.s c.args.places.now (length c.args.shares.now) (length c.args.out.now) in
    let e : o ≡ Err (plain 3) = recover_length c.args.k c.args.s c.args.places.now (length c.args.shares.now) (length c.args.out.now) (sym c.if-not-ok_width.ensures) (sym c.if-not-ok_size.ensures)
    (elim c.then-places-k.branch [
      | then-places-k-via-then-places-k w ↦ and_left (eqb (length c.args.places.now) c.args.k) _ (ne_eqb (length c.args.places.now) c.args.k w.if-places-k.true)
      | then-places-k-via-else-places-k+then-not-lengths_fit w ↦ and_right (eqb (length c.args.places.now) c.args.k) _ (sym w.if-not-lengths_fit.ensures)
    ]) in
    record {
      answer = sym e;
      refused = λ _ _. refl;
      through = λ h. absurd (not_both o (plain 3) tt e h);
      only = λ h. absurd (not_both o (plain 3) tt e h);
      back = λ h. absurd (not_both o (plain 3) tt e h);
    }

pub returns-then-not-are_rising : goal.returns-then-not-are_rising
returns-then-not-are_rising g c =
    let o : Result (Unit {0}) Refused = recover_outcome c.args.k c.args.s c.args.places.now (length c.args.shares.now) (length c.args.out.now) in
    let e : o ≡ Err (plain 5) = recover_rise c.args.k c.args.s c.args.places.now (length c.args.shares.now) (length c.args.out.now) (sym c.if-not-ok_width.ensures) (sym c.if-not-ok_size.ensures)
    (and_from (eqb (length c.args.places.now) c.args.k) (fitting c.args.k c.args.s (length c.args.shares.now) (length c.args.out.now)) (eq-eqb (length c.args.places.now) c.args.k c.if-places-k.false) (sym c.if-not-lengths_fit.ensures))
    (sym c.if-not-are_rising.ensures) in
    record {
      answer = sym e;
      refused = λ _ _. refl;
      through = λ h. absurd (not_both o (plain 5) tt e h);
      only = λ h. absurd (not_both o (plain 5) tt e h);
      back = λ h. absurd (not_both o (plain 5) tt e h);
    }

pub fill_word-requires : goal.fill_word-requires
fill_word-requires g c =
    fills c.args.k c.args.s (length c.args.shares.now) (length c.args.out.now) c.args.places.now c.if-places-k.false
    (sym c.if-not-ok_width.ensures) (sym c.if-not-are_rising.ensures) (size_most c.args.s (sym c.if-not-ok_size.ensures))
    (sym c.if-not-lengths_fit.ensures)

pub returns : goal.returns
returns g c =
    let k : ℕ = c.args.k in
    let s : ℕ = c.args.s in
    let ps : List ℕ = c.args.places.now in
    let xs : List ℕ = c.args.shares.now in
    let out : List ℕ = c.fill_word.new.out in
    let o : Result (Unit {0}) Refused = recover_outcome k s ps (length xs) (length c.args.out.now) in
    let e : o ≡ Ok tt = recover_fine k s ps (length xs) (length c.args.out.now) (sym c.if-not-ok_width.ensures) (sym c.if-not-ok_size.ensures)
    (and_from (eqb (length c.args.places.now) c.args.k) (fitting c.args.k c.args.s (length c.args.shares.now) (length c.args.out.now)) (eq-eqb (length c.args.places.now) c.args.k c.if-places-k.false) (sym c.if-not-lengths_fit.ensures))
    (sym c.if-not-are_rising.ensures) in
    let w : k ≤ 32 = width_most k (sym c.if-not-ok_width.ensures) in
    let t : Through g.C.Code.table k s ps xs out = subst (λ (n : ℕ). Through g.C.Code.table n s ps xs out) c.if-places-k.false c.fill_word.ensures in
    let pl : Places k (at ps) = rising_places k ps c.if-places-k.false (sym c.if-not-are_rising.ensures) in
    record {
      answer = sym e;
      refused = λ r h. absurd (not_both o r tt h e);
      through = λ _. t;
      only = λ _. no_other g.C.Code.table g.met.C.Code.second k s (omega arith) ps xs out pl t;
      back = λ _. gives_back g.C.Code.table g.met.C.Code.first g.met.C.Code.second k s (omega arith) ps xs out pl t;
    }
