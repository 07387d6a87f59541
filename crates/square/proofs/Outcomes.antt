-- What extending and committing answer where nothing is to be refused.
use Rattle.std.proofs.Common.{◌≡◌, ℕ, Bool, true, cond, not, eqb, List, length, Ok, Err, Result, ap, ◌∙◌}
use Rattle.std.proofs.lemmas.Bool.{and_from, and_parts}
use Rattle.octets.specs.Outcome.{Refused, plain}
use Rattle.codes.specs.Code.{Table}
use Rattle.erasure.specs.Limits.{ok_width, ok_size}
use Rattle.header.specs.Fields.{Fields}
use Rattle.header.specs.Sizes.{data_len, square_len}
use Rattle.extension.specs.Square.{extension, fill_fits}
use Rattle.commitment.specs.Roots.{square_fits}
use Rattle.commitment.specs.Commit.{committed, commit_outcome}
use Rattle.square.specs.Extend.{extend_fits, extend_outcome}

granted : {A : Type 0} (w z l : Bool) (x : A) → w ≡ true → z ≡ true → l ≡ true
    → ◌≡◌ {A = Result A Refused} (cond (not w) (Err (plain 1)) (cond (not z) (Err (plain 2)) (cond (not l) (Err (plain 3)) (Ok x)))) (Ok x)
granted w z l x a b c =
    ap (λ v. cond (not v) (Err (plain 1)) (cond (not z) (Err (plain 2)) (cond (not l) (Err (plain 3)) (Ok x)))) a
    ∙ ap (λ v. cond (not v) (Err (plain 2)) (cond (not l) (Err (plain 3)) (Ok x))) b
    ∙ ap (λ v. cond (not v) (Err (plain 3)) (Ok x)) c

module _ (f : List ℕ → List ℕ) (h : Fields) (wide : ok_width h.k ≡ true) (sized : ok_size h.s ≡ true) where
  pub extend_granted : (T : Table) (d : List ℕ) (n m : ℕ) → extend_fits h (length d) n m ≡ true → extend_outcome f T h d n m ≡ Ok (committed f h (extension T h.k h.s d))
  extend_granted T d n m l = granted (ok_width h.k) (ok_size h.s) (extend_fits h (length d) n m) _ wide sized l

  pub commit_granted : (sq : List ℕ) (m : ℕ) → square_fits h (length sq) m ≡ true → commit_outcome f h sq m ≡ Ok (committed f h sq)
  commit_granted sq m l = granted (ok_width h.k) (ok_size h.s) (square_fits h (length sq) m) _ wide sized l

  pub fill_granted : (l n m : ℕ) → extend_fits h l n m ≡ true → fill_fits h.k h.s l n ≡ true
  unfolding fill_fits
  fill_granted l n m e =
      let p = and_parts (eqb l (data_len h)) (square_fits h n m) e in
      let q = and_parts (eqb n (square_len h)) _ p.1 in
      and_from _ _ wide (and_from _ _ sized (and_from _ _ p.0 q.0))
