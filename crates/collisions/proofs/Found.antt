-- What a search finds is a collision in hand, and a search in two parts is one search.
use Rattle.std.proofs.Common.{◌≡◌, ℕ, ◌-◌, ◌*◌, ◌/◌, ◌≤◌, List, ◌∷◌, ◌++◌, length, take, drop, Some, None, Option, sym, refl, ap, ◌∙◌, subst, arith, false, is_some}
use Rattle.std.proofs.lemmas.List.{take_at, length-take-le, length-drop}
use Rattle.std.proofs.lemmas.Bool.{true≢false}
use Rattle.hash.specs.Digests.{digest_len}
use Rattle.merkle.specs.Tree.{sides}
use Rattle.merkle.specs.Climb.{Rung, alone, plain_rule, climb, levels, rungs, from_node, from_leaf, through_two}
use Rattle.merkle.specs.Binding.{Two, Collision, found, or_else, Alike, leaves, Digest}
use Rattle.merkle.proofs.Bound.{plain_binds, first_is, alike_slots, none_some}
use Rattle.merkle.proofs.Climbing.{climb_append, from_leaf_length}
use Rattle.merkle.proofs.Even.{Even, even}
use Rattle.merkle.proofs.Steps.{first_in_parts, slots_take}
use Rattle.collisions.specs.Finding.{at_front, found_len, put_one, put_other, put_end, InHand, Finds, Ends}

some_is : (m n : ℕ) → ◌≡◌ {A = Option ℕ} (Some m) (Some n) → m ≡ n
some_is m n e = cc

in_hand_by : (f : List ℕ → List ℕ) (o : Option Two) (n : ℕ) (x y x' y' : List ℕ) → Even o → ((t : Two) → o ≡ Some t → Collision f t)
    → x' ≡ put_one o x → y' ≡ put_other o y → found_len o ≡ Some n → InHand f n x' y'
in_hand_by f None n x y x' y' e k ex ey h = absurd (none_some n h)
in_hand_by f (Some t) n x y x' y' e k ex ey h =
    let long : length t.one ≡ n = some_is _ n h in
    let tx : take n x' ≡ t.one = ap (take n) ex ∙ take_at t.one (drop (length t.one) x) n long in
    let ty : take n y' ≡ t.other = ap (take n) ey ∙ take_at t.other (drop (length t.other) y) n (sym e ∙ long) in
    let c = k t refl in
    record {
      one_long = ap length tx ∙ long;
      other_long = ap length ty ∙ sym e ∙ long;
      collision = (λ q. c.0 (sym tx ∙ q ∙ ty), ap f tx ∙ c.1 ∙ ap f (sym ty));
    }

-- all that is owed of a search from leaf values of one length
pub finds : (f : List ℕ → List ℕ) (sized : (m : List ℕ) → length (f m) ≡ digest_len) (rs qs : List Rung) (v w : List ℕ) (r : Option ℕ) (x y x' y' : List ℕ)
    → Alike Digest rs qs → length v ≡ length w
    → r ≡ found_len (found f (alone ∷ rs) (alone ∷ qs) v w) → x' ≡ put_one (found f (alone ∷ rs) (alone ∷ qs) v w) x → y' ≡ put_other (found f (alone ∷ rs) (alone ∷ qs) v w) y
    → Finds f (alone ∷ rs) (alone ∷ qs) v w r x y x' y'
finds f sized rs qs v w r x y x' y' alike long er ex ey =
    record {
      answer = er;
      one = ex;
      other = ey;
      in_hand = λ n h. in_hand_by f _ n x y x' y' (even f sized (leaves alike) v w long) (λ t e. (first_is f _ _ t e).collision) ex ey (sym er ∙ h);
      meets = λ ne e. let s = plain_binds f sized v w rs qs tt tt alike ne e in (length s.0.one, er ∙ ap found_len s.1);
    }

-- ---- from two leaf values at one place, by two whole paths of one length

module _ (f : List ℕ → List ℕ) (p : ℕ) (pa pb v w : List ℕ) (paths : length pa ≡ length pb) (sized : (m : List ℕ) → length (f m) ≡ digest_len) (values : length v ≡ length w) where
  alike : Alike Digest (from_node (levels pa) p pa) (from_node (levels pb) p pb)
  alike =
      subst (λ k. Alike Digest (from_node (levels pa) p pa) (from_node k p pb)) (ap (λ n. n / digest_len) paths)
      (alike_slots (levels pa) p pa pb (omega arith) (omega arith))

  pub leaves_some : (t : Two) (n : ℕ) (x y x' y' : List ℕ) → found f (from_leaf (levels pa) p pa) (from_leaf (levels pb) p pb) v w ≡ Some t → n ≡ length t.one
      → x' ≡ at_front t.one x → y' ≡ at_front t.other y → Finds f (from_leaf (levels pa) p pa) (from_leaf (levels pb) p pb) v w (Some n) x y x' y'
  leaves_some t n x y x' y' is en ex ey =
      finds f sized (from_node (levels pa) p pa) (from_node (levels pb) p pb) v w (Some n) x y x' y' alike values
      (ap (λ k. Some k) en ∙ ap found_len (sym is)) (ex ∙ ap (λ o. put_one o x) (sym is)) (ey ∙ ap (λ o. put_other o y) (sym is))

  pub leaves_none : (x y : List ℕ) → found f (from_leaf (levels pa) p pa) (from_leaf (levels pb) p pb) v w ≡ None
      → Finds f (from_leaf (levels pa) p pa) (from_leaf (levels pb) p pb) v w None x y x y
  leaves_none x y is =
      finds f sized (from_node (levels pa) p pa) (from_node (levels pb) p pb) v w None x y x y alike values
      (ap found_len (sym is)) (ap (λ o. put_one o x) (sym is)) (ap (λ o. put_other o y) (sym is))

-- the same, where the search goes up the levels of the first path
module _ (f : List ℕ → List ℕ) (p : ℕ) (pa pb v w : List ℕ) (paths : length pa ≡ length pb) where
  same_levels : levels pa ≡ levels pb
  same_levels = ap (λ n. n / digest_len) paths

  pub leaves_find : ((m : List ℕ) → length (f m) ≡ digest_len) → (r : Option ℕ) (x y x' y' : List ℕ) → length v ≡ length w
      → r ≡ found_len (found f (from_leaf (levels pa) p pa) (from_leaf (levels pa) p pb) v w)
      → x' ≡ put_one (found f (from_leaf (levels pa) p pa) (from_leaf (levels pa) p pb) v w) x
      → y' ≡ put_other (found f (from_leaf (levels pa) p pa) (from_leaf (levels pa) p pb) v w) y
      → Finds f (from_leaf (levels pa) p pa) (from_leaf (levels pb) p pb) v w r x y x' y'
  leaves_find sized r x y x' y' long er ex ey =
      subst (λ k. Finds f (from_leaf (levels pa) p pa) (from_leaf k p pb) v w r x y x' y') same_levels
      (finds f sized (from_node (levels pa) p pa) (from_node (levels pa) p pb) v w r x y x' y' (alike_slots (levels pa) p pa pb (omega arith) (omega arith)) long er ex ey)

-- ---- the buffers of the ends, where something was found, and where nothing was
module _ (f : List ℕ → List ℕ) (rs qs : List Rung) (v w : List ℕ) where
  kept : (n : ℕ) (o : Option Two) (e a : List ℕ) → ◌≡◌ {A = Option ℕ} (Some n) (found_len o) → a ≡ put_end o e a
  kept n None e a h = absurd (none_some n (sym h))
  kept n (Some t) e a h = refl

  pub ends_some : (n : ℕ) (a b : List ℕ) → ◌≡◌ {A = Option ℕ} (Some n) (found_len (found f rs qs v w)) → Ends f rs qs v w a b a b
  ends_some n a b h = record { one = kept n _ _ a h; other = kept n _ _ b h }

  reached : (o : Option Two) (e a : List ℕ) → ◌≡◌ {A = Option ℕ} None (found_len o) → e ≡ put_end o e a
  reached None e a h = refl
  reached (Some t) e a h = absurd (none_some (length t.one) h)

  pub ends_none : (a b a' b' : List ℕ) → ◌≡◌ {A = Option ℕ} None (found_len (found f rs qs v w)) → a' ≡ climb plain_rule f rs v → b' ≡ climb plain_rule f qs w
      → Ends f rs qs v w a b a' b'
  ends_none a b a' b' h ea eb = record { one = ea ∙ reached _ _ a h; other = eb ∙ reached _ _ b h }

no_two : (r : Option ℕ) (o : Option Two) → r ≡ found_len o → is_some r ≡ false → o ≡ None
no_two r None e h = refl
no_two r (Some t) e h = absurd (true≢false (ap is_some (sym e) ∙ h))

pub is_none : (r : Option ℕ) → is_some r ≡ false → r ≡ None
is_none None h = refl
is_none (Some n) h = absurd (true≢false h)

-- ---- two parts

module _ (f : List ℕ → List ℕ) (rs rs' qs qs' : List Rung) (v w : List ℕ) (same : length rs ≡ length rs') where
  whole : found f (rs ++ qs) (rs' ++ qs') v w ≡ or_else (found f rs rs' v w) (found f qs qs' (climb plain_rule f rs v) (climb plain_rule f rs' w))
  whole = first_in_parts f rs rs' qs qs' v w same

  or_first : (o u : Option Two) (n : ℕ) → ◌≡◌ {A = Option ℕ} (Some n) (found_len o) → or_else o u ≡ o
  or_first None u n h = absurd (none_some n (sym h))
  or_first (Some t) u n h = refl

  or_then : (o u : Option Two) → ◌≡◌ {A = Option ℕ} None (found_len o) → o ≡ None
  or_then None u h = refl
  or_then (Some t) u h = absurd (none_some (length t.one) h)

  -- found in the first part
  pub finds_first : (n : ℕ) (x y x' y' : List ℕ) → Finds f rs rs' v w (Some n) x y x' y' → Finds f (rs ++ qs) (rs' ++ qs') v w (Some n) x y x' y'
  finds_first n x y x' y' s =
      let is : found f rs rs' v w ≡ found f (rs ++ qs) (rs' ++ qs') v w = sym (whole ∙ or_first _ _ n s.answer) in
      record {
        answer = s.answer ∙ ap found_len is;
        one = s.one ∙ ap (λ o. put_one o x) is;
        other = s.other ∙ ap (λ o. put_other o y) is;
        in_hand = s.in_hand;
        meets = λ ne e. (n, refl);
      }

  -- not there, and then what the second part gives, from the ends of the first
  pub finds_then : (r : Option ℕ) (x y x₁ y₁ x' y' : List ℕ) → Finds f rs rs' v w None x y x₁ y₁
      → Finds f qs qs' (climb plain_rule f rs v) (climb plain_rule f rs' w) r x₁ y₁ x' y' → Finds f (rs ++ qs) (rs' ++ qs') v w r x y x' y'
  finds_then r x y x₁ y₁ x' y' s u =
      let low = found f rs rs' v w in
      let high = found f qs qs' (climb plain_rule f rs v) (climb plain_rule f rs' w) in
      let none : low ≡ None = or_then low high s.answer in
      let is : high ≡ found f (rs ++ qs) (rs' ++ qs') v w = sym (whole ∙ ap (λ o. or_else o high) none) in
      let kept-one : x₁ ≡ x = s.one ∙ ap (λ o. put_one o x) none in
      let kept_other : y₁ ≡ y = s.other ∙ ap (λ o. put_other o y) none in
      record {
        answer = u.answer ∙ ap found_len is;
        one = u.one ∙ ap (λ o. put_one o x₁) is ∙ ap (put_one (found f (rs ++ qs) (rs' ++ qs') v w)) kept-one;
        other = u.other ∙ ap (λ o. put_other o y₁) is ∙ ap (put_other (found f (rs ++ qs) (rs' ++ qs') v w)) kept_other;
        in_hand = u.in_hand;
        meets = λ ne e.
            u.meets (λ q. let m = s.meets ne q in none_some m.0 m.1) (sym (climb_append plain_rule f rs qs v) ∙ e ∙ climb_append plain_rule f rs' qs' w);
      }

-- ---- chained searches

module _ (f : List ℕ → List ℕ) (rs qs : List Rung) (v w : List ℕ) where
  -- where nothing was found, the ends are written
  pub ends_are : (r : Option ℕ) (x y x' y' a b a' b' : List ℕ) → Finds f rs qs v w r x y x' y' → Ends f rs qs v w a b a' b' → is_some r ≡ false
      → (a' ≡ climb plain_rule f rs v) × (b' ≡ climb plain_rule f qs w)
  ends_are r x y x' y' a b a' b' s e h =
      let none : found f rs qs v w ≡ None = no_two r _ s.answer h in
      (e.one ∙ ap (λ o. put_end o (climb plain_rule f rs v) a) none, e.other ∙ ap (λ o. put_end o (climb plain_rule f qs w) b) none)

  -- the same search, said otherwise
  pub finds_at : (rs' qs' : List Rung) (v' w' : List ℕ) (r : Option ℕ) (x y x' y' : List ℕ) → rs ≡ rs' → qs ≡ qs' → v ≡ v' → w ≡ w'
      → Finds f rs qs v w r x y x' y' → Finds f rs' qs' v' w' r x y x' y'
  finds_at rs' qs' v' w' r x y x' y' er eq ev ew s =
      subst (λ z. Finds f rs' qs' v' z r x y x' y') ew
      (subst (λ z. Finds f rs' qs' z w r x y x' y') ev
      (subst (λ z. Finds f rs' z v w r x y x' y') eq
      (subst (λ z. Finds f z qs v w r x y x' y') er s)))

-- the parts of a path through two trees, as they are cut off
low_rungs : (d p : ℕ) (path : List ℕ) → d ≤ levels path → from_leaf (levels (take (digest_len * d) path)) p (take (digest_len * d) path) ≡ from_leaf d p path
low_rungs d p path h =
    let n : length (take (digest_len * d) path) ≡ digest_len * d = length-take-le (digest_len * d) path (omega arith) in
    let k : levels (take (digest_len * d) path) ≡ d = omega arith in
    ap (λ m. from_leaf m p (take (digest_len * d) path)) k ∙ ap (λ ys. alone ∷ rungs (sides d p) ys) (slots_take d (digest_len * d) path (omega arith))

high_rungs : (d q : ℕ) (path : List ℕ) → from_leaf (levels (drop (digest_len * d) path)) q (drop (digest_len * d) path) ≡ from_leaf (levels path - d) q (drop (digest_len * d) path)
high_rungs d q path =
    let n : length (drop (digest_len * d) path) ≡ length path - digest_len * d = length-drop (digest_len * d) path in
    let k : levels (drop (digest_len * d) path) ≡ levels path - d = omega arith in
    ap (λ m. from_leaf m q (drop (digest_len * d) path)) k

module _ (f : List ℕ → List ℕ) (d p q : ℕ) (pa pb v w : List ℕ) (in-a : d ≤ levels pa) (in_b : d ≤ levels pb) (x y x₁ y₁ : List ℕ) where
  -- a search of the first tree
  abbrev Low : Option ℕ → Type 0
  Low r = Finds f (from_leaf (levels (take (digest_len * d) pa)) p (take (digest_len * d) pa)) (from_leaf (levels (take (digest_len * d) pb)) p (take (digest_len * d) pb)) v w r x y x₁ y₁

  low_at : (r : Option ℕ) → Low r → Finds f (from_leaf d p pa) (from_leaf d p pb) v w r x y x₁ y₁
  low_at r low = finds_at f _ _ v w (from_leaf d p pa) (from_leaf d p pb) v w r x y x₁ y₁ (low_rungs d p pa in-a) (low_rungs d p pb in_b) refl refl low

  even_long : length (from_leaf d p pa) ≡ length (from_leaf d p pb)
  even_long = from_leaf_length d p pa ∙ sym (from_leaf_length d p pb)

  -- found there
  pub two_first : (n : ℕ) → Low (Some n) → Finds f (through_two d p (levels pa - d) q pa) (through_two d p (levels pb - d) q pb) v w (Some n) x y x₁ y₁
  two_first n low =
      finds_first f (from_leaf d p pa) (from_leaf d p pb) (from_leaf (levels pa - d) q (drop (digest_len * d) pa)) (from_leaf (levels pb - d) q (drop (digest_len * d) pb)) v w even_long n x y x₁ y₁
      (low_at (Some n) low)

  -- not there, and then searched from the roots reached, a and b
  pub two_then : (s : Option ℕ) (a b x' y' : List ℕ) → Low None
      → a ≡ climb plain_rule f (from_leaf (levels (take (digest_len * d) pa)) p (take (digest_len * d) pa)) v
      → b ≡ climb plain_rule f (from_leaf (levels (take (digest_len * d) pb)) p (take (digest_len * d) pb)) w
      → Finds f (from_leaf (levels (drop (digest_len * d) pa)) q (drop (digest_len * d) pa)) (from_leaf (levels (drop (digest_len * d) pb)) q (drop (digest_len * d) pb)) a b s x₁ y₁ x' y'
      → Finds f (through_two d p (levels pa - d) q pa) (through_two d p (levels pb - d) q pb) v w s x y x' y'
  two_then s a b x' y' low ea eb high =
      finds_then f (from_leaf d p pa) (from_leaf d p pb) (from_leaf (levels pa - d) q (drop (digest_len * d) pa)) (from_leaf (levels pb - d) q (drop (digest_len * d) pb)) v w even_long s x y x₁ y₁ x' y'
      (low_at None low)
      (finds_at f _ _ a b _ _ _ _ s x₁ y₁ x' y' (high_rungs d q pa) (high_rungs d q pb)
      (ea ∙ ap (λ rs. climb plain_rule f rs v) (low_rungs d p pa in-a)) (eb ∙ ap (λ rs. climb plain_rule f rs w) (low_rungs d p pb in_b)) high)
