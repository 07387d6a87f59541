-- Searches for a collision, in the words of evidence and claims.
use Rattle.std.proofs.Common.{◌≡◌, ℕ, ◌+◌, ◌-◌, ◌*◌, ◌/◌, ◌%◌, ◌≤◌, true, List, length, Option, sym, ap, ◌∙◌, subst, arith}
use Rattle.std.proofs.lemmas.Bool.{and_from, eq-eqb, le-leb, lt-ltb}
use Rattle.hash.specs.Digests.{digest_len, parts_limit}
use Rattle.merkle.specs.Climb.{Rung, levels, through_two, from_leaf}
use Rattle.collisions.specs.Finding.{Finds, Fitting, strings_fit, search_fits, two_fit}
use Rattle.header.specs.declared.cell.Axis.{Axis}
use Rattle.header.specs.Fields.{Fields}
use Rattle.header.specs.Lines.{line_of, place_on}
use Rattle.header.specs.Sizes.{depth, path_len, line_number}
use Rattle.evidence.specs.Evidence.{evidence_rungs}
use Rattle.evidence.specs.Paths.{cell_share, evidence_path}

-- lengths that fit
pub strings_fit_lem : (v w p q x y : ℕ) → Fitting v w p q x y → strings_fit v w p q x y ≡ true
strings_fit_lem v w p q x y t =
    and_from _ _ (and_from _ _ (and_from _ _ (and_from _ _ (and_from _ _ (and_from _ _ (and_from _ _ (eq-eqb v w t.values) (le-leb v parts_limit t.short))
    (eq-eqb p q t.paths)) (eq-eqb (p % digest_len) 0 t.digests)) (lt-ltb v x t.leaf_one)) (lt-ltb v y t.leaf_other))
    (lt-ltb (2 * digest_len) x t.pair_one)) (lt-ltb (2 * digest_len) y t.pair_other)

-- values of s bytes, paths of n digests, and strings of 513
pub fitting : (s n v w p q x y : ℕ) → s ≤ 512 → v ≡ s → w ≡ s → p ≡ digest_len * n → q ≡ digest_len * n → x ≡ 513 → y ≡ 513 → Fitting v w p q x y
fitting s n v w p q x y few a b e f l m =
    record {
      values = a ∙ sym b;
      short = omega arith;
      paths = e ∙ sym f;
      digests = omega arith;
      leaf_one = omega arith;
      leaf_other = omega arith;
      pair_one = omega arith;
      pair_other = omega arith;
    }

pub two_fits : (d s n v w p q x y : ℕ) → d ≤ n → s ≤ 512 → v ≡ s → w ≡ s → p ≡ digest_len * n → q ≡ digest_len * n → x ≡ 513 → y ≡ 513
    → two_fit d v w p q x y ≡ true
two_fits d s n v w p q x y deep few a b e f l m =
    and_from _ _ (strings_fit_lem v w p q x y (fitting s n v w p q x y few a b e f l m)) (le-leb d (p / digest_len) (omega arith))

pub one_fits : (s n v w p q a b x y : ℕ) → s ≤ 512 → v ≡ s → w ≡ s → p ≡ digest_len * n → q ≡ digest_len * n → a ≡ digest_len → b ≡ digest_len → x ≡ 513 → y ≡ 513
    → search_fits v w p q a b x y ≡ true
one_fits s n v w p q a b x y few i j e f k o l m =
    and_from _ _ (and_from _ _ (strings_fit_lem v w p q x y (fitting s n v w p q x y few i j e f l m)) (eq-eqb a digest_len k)) (eq-eqb b digest_len o)

-- ---- the climb of an evidence

module _ (h : Fields) (axis : Axis) (r c d place next : ℕ) (deep : d ≡ depth h) (at : place ≡ place_on axis r c) (line : next ≡ line_number h axis (line_of axis r c)) where
  rungs_are : (path : List ℕ) → length path ≡ path_len h → through_two d place (levels path - d) next path ≡ evidence_rungs h axis r c path
  rungs_are path long =
      let rest : levels path - d ≡ depth h + 1 = omega arith in
      ap (λ e. through_two d place e next path) rest
      ∙ ap (λ e. through_two e place (depth h + 1) next path) deep
      ∙ ap (λ p. through_two (depth h) p (depth h + 1) next path) at
      ∙ ap (λ q. through_two (depth h) (place_on axis r c) (depth h + 1) q path) line

  pub finds_evidence : (f : List ℕ → List ℕ) (v w w' path own own' : List ℕ) (o : Option ℕ) (x y x' y' : List ℕ)
      → length path ≡ path_len h → length own ≡ path_len h → w ≡ w' → own ≡ own'
      → Finds f (through_two d place (levels path - d) next path) (through_two d place (levels own - d) next own) v w o x y x' y'
      → Finds f (evidence_rungs h axis r c path) (evidence_rungs h axis r c own') v w' o x y x' y'
  finds_evidence f v w w' path own own' o x y x' y' long long' e same finds =
      subst (λ rs. Finds f rs (evidence_rungs h axis r c own') v w' o x y x' y') (rungs_are path long)
      (subst (λ qs. Finds f (through_two d place (levels path - d) next path) qs v w' o x y x' y') (rungs_are own long' ∙ ap (evidence_rungs h axis r c) same)
      (subst (λ u. Finds f (through_two d place (levels path - d) next path) (through_two d place (levels own - d) next own) v u o x y x' y') e finds))

-- ---- the climb of a claim

pub finds_claim : (f : List ℕ → List ℕ) (n p p' : ℕ) (v w w' path own own' : List ℕ) (o : Option ℕ) (x y x' y' : List ℕ)
    → length path ≡ digest_len * n → length own ≡ digest_len * n → p ≡ p' → w ≡ w' → own ≡ own'
    → Finds f (from_leaf (levels path) p path) (from_leaf (levels own) p own) v w o x y x' y'
    → Finds f (from_leaf n p' path) (from_leaf n p' own') v w' o x y x' y'
finds_claim f n p p' v w w' path own own' o x y x' y' long long' at e same finds =
    let a : levels path ≡ n = omega arith in
    let b : levels own ≡ n = omega arith in
    subst (λ rs. Finds f rs (from_leaf n p' own') v w' o x y x' y') (ap (λ m. from_leaf m p path) a ∙ ap (λ q. from_leaf n q path) at)
    (subst (λ qs. Finds f (from_leaf (levels path) p path) qs v w' o x y x' y') (ap (λ m. from_leaf m p own) b ∙ ap (λ q. from_leaf n q own) at ∙ ap (from_leaf n p') same)
    (subst (λ u. Finds f (from_leaf (levels path) p path) (from_leaf (levels own) p own) v u o x y x' y') e finds))

-- the same search, its cell, its axis and its roots said otherwise
pub finds_at : (f : List ℕ → List ℕ) (h : Fields) (sq roots roots' : List ℕ) (axis axis' : Axis) (r r' c c' : ℕ) (v path : List ℕ) (o : Option ℕ) (x y x' y' : List ℕ)
    → roots ≡ roots' → axis ≡ axis' → r ≡ r' → c ≡ c'
    → Finds f (evidence_rungs h axis r c path) (evidence_rungs h axis r c (evidence_path f h sq roots axis r c)) v (cell_share h sq r c) o x y x' y'
    → Finds f (evidence_rungs h axis' r' c' path) (evidence_rungs h axis' r' c' (evidence_path f h sq roots' axis' r' c')) v (cell_share h sq r' c') o x y x' y'
finds_at f h sq roots roots' axis axis' r r' c c' v path o x y x' y' er ea e l finds =
    subst (λ k. Finds f (evidence_rungs h axis' r' k path) (evidence_rungs h axis' r' k (evidence_path f h sq roots' axis' r' k)) v (cell_share h sq r' k) o x y x' y') l
    (subst (λ k. Finds f (evidence_rungs h axis' k c path) (evidence_rungs h axis' k c (evidence_path f h sq roots' axis' k c)) v (cell_share h sq k c) o x y x' y') e
    (subst (λ k. Finds f (evidence_rungs h k r c path) (evidence_rungs h k r c (evidence_path f h sq roots' k r c)) v (cell_share h sq r c) o x y x' y') ea
    (subst (λ k. Finds f (evidence_rungs h axis r c path) (evidence_rungs h axis r c (evidence_path f h sq k axis r c)) v (cell_share h sq r c) o x y x' y') er finds)))

-- what a search answers may be named anew
pub answered : {f : List ℕ → List ℕ} {rs qs : List Rung} {v w : List ℕ} {r r' : Option ℕ} {x y x' y' : List ℕ} → r' ≡ r → Finds f rs qs v w r x y x' y' → Finds f rs qs v w r' x y x' y'
answered {f = f} {rs = rs} {qs = qs} {v = v} {w = w} {x = x} {y = y} {x' = x'} {y' = y'} e h = subst (λ o. Finds f rs qs v w o x y x' y') (sym e) h
