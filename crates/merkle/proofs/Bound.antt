-- Climbs bind.
use Rattle.std.proofs.Common.{◌≡◌, ℕ, zero, suc, ◌*◌, ◌/◌, ◌<◌, ◌≤◌, true, false, not, ◌⊎◌, List, [], ◌∷◌, ◌++◌, length, get_or, take, drop, Some, None, Option, sym, ap, ◌∙◌, subst, inl, inr, arith, length-drop}
use Rattle.std.specs.Str.{bytes_eq}
use Rattle.std.proofs.lemmas.Slice.Eq.{bytes_eq-Decides}
use Rattle.std.proofs.lemmas.List.{take_at, drop_at, length-take-le}
use Rattle.std.proofs.lemmas.Bool.{cases_Bool, both_ways, cond-true, cond-false, and_from, and_right, and_parts, not_from_false, not-true}
use Rattle.hash.specs.Digests.{digest_len}
use Rattle.merkle.specs.Tree.{right, left, side, sides}
use Rattle.merkle.specs.Climb.{Node, Rule, Rung, plain_rule, leaf_of, join_of, rungs, climb, inputs, slots}
use Rattle.merkle.specs.Binding.{Two, Collision, collides, first_collision, Binding, Alike, ends, leaves, pairs, Shows, Binds, NodesBind, Any, Digest}
use Rattle.merkle.specs.Laws.{TwoBind, FirstIs}

-- two strings are equal or they are not
pub same_or_not : (x y : List ℕ) → (x ≡ y) ⊎ (x ≡ y → ⊥)
same_or_not x y =
    elim (cases_Bool (bytes_eq x y)) [
      | inl t ↦ inl ((bytes_eq-Decides x y).0 t)
      | inr n ↦ inr (λ e. both_ways (bytes_eq x y) n ((bytes_eq-Decides x y).1 e))
    ]

pub same_true : (x y : List ℕ) → x ≡ y → bytes_eq x y ≡ true
same_true x y e = (bytes_eq-Decides x y).1 e

pub same_false : (x y : List ℕ) → (x ≡ y → ⊥) → bytes_eq x y ≡ false
same_false x y n = elim (cases_Bool (bytes_eq x y)) [ inl t ↦ absurd (n ((bytes_eq-Decides x y).0 t)) | inr e ↦ e ]

module _ (f : List ℕ → List ℕ) where
  pub collides_true : (x y : List ℕ) → (x ≡ y → ⊥) → f x ≡ f y → collides f x y ≡ true
  collides_true x y n e = and_from _ _ (not_from_false _ (same_false x y n)) (same_true (f x) (f y) e)

  pub collides_false : (x y : List ℕ) → (f x ≡ f y → ⊥) → collides f x y ≡ false
  collides_false x y n = and_right (not (bytes_eq x y)) _ (same_false (f x) (f y) n)

  -- a level whose inputs differ
  step : (x y : List ℕ) (xs ys : List (List ℕ)) → (x ≡ y → ⊥) → ((f x ≡ f y → ⊥) → Shows f xs ys) → Shows f (x ∷ xs) (y ∷ ys)
  unfolding first_collision
  step x y xs ys n on =
      elim (same_or_not (f x) (f y)) [
        | inl e ↦ (record { one = x; other = y }, cond-true (collides f x y) _ _ (collides_true x y n e), (n, e))
        | inr d ↦ let s = on d in (s.0, cond-false (collides f x y) _ _ (collides_false x y d) ∙ s.1, s.2)
      ]

  module _ (R : Rule) (fit ok : List ℕ → Type 0) (B : Binding R f fit ok) where
    bound : {rs qs : List Rung} → Alike ok rs qs → (x x' : List ℕ) → ok x → ok x' → (x ≡ x' → ⊥) → climb R f rs x ≡ climb R f qs x' → Shows f (inputs R f rs x) (inputs R f qs x')
    unfolding climb inputs
    bound ends x x' o o' n e = absurd (n e)
    bound (leaves a) x x' o o' n e =
        step _ _ _ _ (λ i. n (B.leaf_binds x x' i))
        (λ d. bound a (leaf_of R f x) (leaf_of R f x') (B.leaf_ok x (B.node_fits x o)) (B.leaf_ok x' (B.node_fits x' o')) (λ i. d (B.leaf_shows x x' _ _ (B.node_fits x o) (B.node_fits x' o') i)) e)
    bound (pairs right {y} {y'} q q' a) x x' o o' n e =
        step _ _ _ _ (λ i. n (B.join_binds x y x' y' o o' i).0)
        (λ d. bound a (join_of R f x y) (join_of R f x' y') (B.join_ok x y o q) (B.join_ok x' y' o' q') (λ i. d (B.join_shows x y x' y' _ _ o o' q q' i)) e)
    bound (pairs left {y} {y'} q q' a) x x' o o' n e =
        step _ _ _ _ (λ i. n (B.join_binds y x y' x' q q' i).1)
        (λ d. bound a (join_of R f y x) (join_of R f y' x') (B.join_ok y x q o) (B.join_ok y' x' q' o') (λ i. d (B.join_shows y x y' x' _ _ q q' o o' i)) e)

    nodes_bind : NodesBind R f ok
    nodes_bind x y rs qs o o' a n e = bound a x y o o' n e

    pub binds : Binds R f fit ok
    unfolding climb inputs
    binds v v' rs qs q q' a n e =
        step _ _ _ _ (λ i. n (B.leaf_binds v v' i))
        (λ d. bound a (leaf_of R f v) (leaf_of R f v') (B.leaf_ok v q) (B.leaf_ok v' q') (λ i. d (B.leaf_shows v v' _ _ q q' i)) e)

  module _ (sized : (m : List ℕ) → length (f m) ≡ digest_len) where
    pub plain_binding : Binding plain_rule f Any Digest
    plain_binding = record {
      node_fits = λ x o. tt;
      leaf_ok = λ v q. sized _;
      join_ok = λ l r p q. sized _;
      leaf_binds = λ v v' e. ap (drop 1) e;
      join_binds = λ l r l' r' o o' e.
          let t : l ++ r ≡ l' ++ r' = ap (drop 1) e in (
            sym (take_at l r digest_len o) ∙ ap (take digest_len) t ∙ take_at l' r' digest_len o',
            sym (drop_at l r digest_len o) ∙ ap (drop digest_len) t ∙ drop_at l' r' digest_len o',
          );
      leaf_shows = λ v v' h h' q q' e. e;
      join_shows = λ l r l' r' h h' o o' q q' e. e;
    }

    pub plain_binds : Binds plain_rule f Any Digest
    plain_binds = binds plain_rule Any Digest plain_binding

    pub plain_nodes_bind : NodesBind plain_rule f Digest
    plain_nodes_bind = nodes_bind plain_rule Any Digest plain_binding

-- climbs from one place along two rows of digests
pub alike_slots : (d p : ℕ) (xs xs' : List ℕ) → digest_len * d ≤ length xs → digest_len * d ≤ length xs' → Alike Digest (rungs (sides d p) (slots d xs)) (rungs (sides d p) (slots d xs'))
unfolding rungs sides slots
alike_slots zero p xs xs' h h' = ends
alike_slots (suc d) p xs xs' h h' =
    pairs (side p) (length-take-le digest_len xs (omega arith)) (length-take-le digest_len xs' (omega arith))
    (alike_slots d (p / 2) (drop digest_len xs) (drop digest_len xs') (simp length-drop (omega arith)) (simp length-drop (omega arith)))

pub alike_append : {ok : Node → Type 0} {rs rs' qs qs' : List Rung} → Alike ok rs rs' → Alike ok qs qs' → Alike ok (rs ++ qs) (rs' ++ qs')
alike_append ends b = b
alike_append (leaves a) b = leaves (alike_append a b)
alike_append (pairs s q q' a) b = pairs s q q' (alike_append a b)

pub two_bind : (f : List ℕ → List ℕ) → ((m : List ℕ) → length (f m) ≡ digest_len) → TwoBind f
two_bind f sized d p e q v v' path path' h h' n k =
    plain_binds f sized v v' _ _ tt tt
    (alike_append (alike_slots d p path path' (omega arith) (omega arith))
    (leaves (alike_slots e q (drop (digest_len * d) path) (drop (digest_len * d) path') (simp length-drop (omega arith)) (simp length-drop (omega arith)))))
    n k

some_is : (s t : Two) → ◌≡◌ {A = Option Two} (Some s) (Some t) → s ≡ t
some_is s t e = cc

pub none_some : {A : Type 0} (x : A) → ◌≡◌ {A = Option A} None (Some x) → ⊥
none_some x e = let z : ◌≡◌ {A = ℕ} 0 1 = cc in omega arith

pub collides_is : (f : List ℕ → List ℕ) (x y : List ℕ) → collides f x y ≡ true → Collision f (record { one = x; other = y })
collides_is f x y h =
    let ps = and_parts (not (bytes_eq x y)) (bytes_eq (f x) (f y)) h in
    (λ e. both_ways (bytes_eq x y) (not-true (bytes_eq x y) ps.0) (same_true x y e), (bytes_eq-Decides (f x) (f y)).0 ps.1)

earlier :
    (f : List ℕ → List ℕ) (x y : List ℕ) (xs ys : List (List ℕ)) (n : ℕ) →
    collides f x y ≡ false →
    ((j : ℕ) → j < n → Collision f (record { one = get_or xs j []; other = get_or ys j [] }) → ⊥) →
    (j : ℕ) → j < suc n → Collision f (record { one = get_or (x ∷ xs) j []; other = get_or (y ∷ ys) j [] }) → ⊥
earlier f x y xs ys n miss on zero l k = both_ways (collides f x y) miss (collides_true f x y k.0 k.1)
earlier f x y xs ys n miss on (suc j) l k = on j (omega arith) k

pub first_is : (f : List ℕ → List ℕ) → FirstIs f
unfolding first_collision
first_is f [] ys t e = absurd (none_some t e)
first_is f (x ∷ xs) [] t e = absurd (none_some t e)
first_is f (x ∷ xs) (y ∷ ys) t e =
    elim (cases_Bool (collides f x y)) [
      | inl hit ↦
          let is : record { one = x; other = y } ≡ t = some_is _ t (sym (cond-true (collides f x y) _ _ hit) ∙ e) in
          record {
            level = 0;
            within = omega arith;
            one_is = ap (λ (s : Two). s.one) is;
            other_is = ap (λ (s : Two). s.other) is;
            collision = subst (Collision f) is (collides_is f x y hit);
            before = λ j l k. omega arith;
          }
      | inr miss ↦
          let r = first_is f xs ys t (sym (cond-false (collides f x y) _ _ miss) ∙ e) in
          record {
            level = suc r.level;
            within = omega arith;
            one_is = r.one_is;
            other_is = r.other_is;
            collision = r.collision;
            before = earlier f x y xs ys r.level miss r.before;
          }
    ]
