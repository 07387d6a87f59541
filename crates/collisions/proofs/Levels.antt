-- A search, level by level.
use Rattle.std.proofs.Common.{◌≡◌, ℕ, ◌+◌, ◌/◌, ◌<◌, ◌≤◌, Bool, true, false, not, ◌&&◌, List, [], ◌∷◌, ◌++◌, length, get_or, Some, None, sym, refl, ap, ◌∙◌, ◌*◌, Option, add-one, arith, length-append}
use Rattle.std.specs.Str.{bytes_eq}
use Rattle.std.proofs.lemmas.Bool.{and_from, and_left, and_right}
use Rattle.merkle.specs.Tree.{Side, right, left, side}
use Rattle.merkle.specs.Climb.{Node, Rung, alone, beside, plain_rule, input, above, climb, levels, past, from_node, from_leaf, slot}
use Rattle.std.specs.Simd.{first_chunks}
use Rattle.hash.specs.Digests.{digest_len}
use Rattle.merkle.specs.Binding.{Two, collides, found}
use Rattle.merkle.proofs.Chunks.{past_from, past_more, past_all, past_path}
use Rattle.merkle.proofs.Steps.{climb_more, first_none, first_here, first_on, left as rest, left_more, left_all}
use Rattle.collisions.specs.Finding.{at_front, found_len, put_one, put_other}
use Rattle.collisions.proofs.Joined.{same_append}

-- ---- whether two strings collide, from what code finds out about them: d, that they differ, and e, that their digests agree
module _ (f : List ℕ → List ℕ) (x y : List ℕ) (d : Bool) (differ : d ≡ not (bytes_eq x y)) where
  pub no_difference : d ≡ false → collides f x y ≡ false
  no_difference none = and_left _ _ (sym differ ∙ none)

  module _ (e : Bool) (u v : List ℕ) (eu : u ≡ f x) (ev : v ≡ f y) (agree : e ≡ bytes_eq u v) where
    agreeing : e ≡ bytes_eq (f x) (f y)
    agreeing = agree ∙ ap (λ z. bytes_eq z v) eu ∙ ap (bytes_eq (f x)) ev

    pub collide : d ≡ true → e ≡ true → collides f x y ≡ true
    collide is ise = and_from _ _ (sym differ ∙ is) (sym agreeing ∙ ise)

    pub no_agreement : e ≡ false → collides f x y ≡ false
    no_agreement none = and_right _ _ (sym agreeing ∙ none)

-- two nodes under one and two under another
pub children_differ : (l r l' r' : List ℕ) (d : Bool) → length l ≡ length l' → d ≡ not (bytes_eq l l' && bytes_eq r r') → d ≡ not (bytes_eq (1 ∷ (l ++ r)) (1 ∷ (l' ++ r')))
children_differ l r l' r' d even is = is ∙ ap not (sym (same_append l l' r r' even))

above_input : (f : List ℕ → List ℕ) (s : Side) (y x : Node) → above plain_rule f (beside s y) x ≡ f (input plain_rule (beside s y) x)
above_input f right y x = refl
above_input f left y x = refl

-- ---- past sibling i of each path, at place p; x and y are what is hashed there
module _ (f : List ℕ → List ℕ) (i p : ℕ) (pa pb : List Node) (a b sa sb x y : List ℕ) (in-a : i < length pa) (in-b : i < length pb)
    (is-a : sa ≡ get_or pa i []) (is-b : sb ≡ get_or pb i [])
    (ex : x ≡ input plain_rule (beside (side p) sa) a) (ey : y ≡ input plain_rule (beside (side p) sb) b) where
  opened : found f (past_from i p pa) (past_from i p pb) a b ≡ found f (beside (side p) sa ∷ past_from (i + 1) (p / 2) pa) (beside (side p) sb ∷ past_from (i + 1) (p / 2) pb) a b
  opened =
      ap (λ rs. found f rs (past_from i p pb) a b) (past_more i p pa sa in-a is-a)
      ∙ ap (λ rs. found f (beside (side p) sa ∷ past_from (i + 1) (p / 2) pa) rs a b) (past_more i p pb sb in-b is-b)

  inputs_are : collides f x y ≡ collides f (input plain_rule (beside (side p) sa) a) (input plain_rule (beside (side p) sb) b)
  inputs_are = ap (λ z. collides f z y) ex ∙ ap (collides f (input plain_rule (beside (side p) sa) a)) ey

  -- a collision here
  pub pair_hit : collides f x y ≡ true → found f (past_from i p pa) (past_from i p pb) a b ≡ Some (record { one = x; other = y })
  pair_hit hit =
      opened
      ∙ first_here plain_rule f _ _ _ _ a b (sym inputs_are ∙ hit)
      ∙ ap (λ z. Some (record { one = z; other = input plain_rule (beside (side p) sb) b })) (sym ex)
      ∙ ap (λ z. Some (record { one = x; other = z })) (sym ey)

  pub up_a : (u : List ℕ) → u ≡ f x → u ≡ above plain_rule f (beside (side p) sa) a
  up_a u e = e ∙ ap f ex ∙ sym (above_input f (side p) sa a)

  pub up_b : (u : List ℕ) → u ≡ f y → u ≡ above plain_rule f (beside (side p) sb) b
  up_b u e = e ∙ ap f ey ∙ sym (above_input f (side p) sb b)

  -- none here
  pub pair_miss : (u v : List ℕ) → collides f x y ≡ false → u ≡ f x → v ≡ f y
      → found f (past_from (i + 1) (p / 2) pa) (past_from (i + 1) (p / 2) pb) u v ≡ found f (past_from i p pa) (past_from i p pb) a b
  pair_miss u v miss eu ev =
      ap (λ z. found f (past_from (i + 1) (p / 2) pa) (past_from (i + 1) (p / 2) pb) z v) (up_a u eu)
      ∙ ap (λ z. found f (past_from (i + 1) (p / 2) pa) (past_from (i + 1) (p / 2) pb) (above plain_rule f (beside (side p) sa) a) z) (up_b v ev)
      ∙ sym (first_on plain_rule f _ _ _ _ a b (sym inputs_are ∙ miss))
      ∙ sym opened

-- at the end of the paths
pub no_pair : (f : List ℕ → List ℕ) (i p : ℕ) (pa pb : List Node) (a b : List ℕ) → length pa ≤ i → length pb ≤ i → found f (past_from i p pa) (past_from i p pb) a b ≡ None
no_pair f i p pa pb a b ha hb =
    ap (λ rs. found f rs (past_from i p pb) a b) (past_all i p pa ha) ∙ ap (λ rs. found f [] rs a b) (past_all i p pb hb) ∙ first_none plain_rule f a b

-- ---- at the leaves
module _ (f : List ℕ → List ℕ) (rs qs : List Rung) (v w : List ℕ) where
  pub leaf_hit : collides f (0 ∷ v) (0 ∷ w) ≡ true → found f (alone ∷ rs) (alone ∷ qs) v w ≡ Some (record { one = 0 ∷ v; other = 0 ∷ w })
  leaf_hit hit = first_here plain_rule f alone alone rs qs v w hit

  pub leaf_miss : (a b : List ℕ) → collides f (0 ∷ v) (0 ∷ w) ≡ false → a ≡ f (0 ∷ v) → b ≡ f (0 ∷ w) → found f rs qs a b ≡ found f (alone ∷ rs) (alone ∷ qs) v w
  leaf_miss a b miss ea eb =
      ap (λ z. found f rs qs z b) ea ∙ ap (λ z. found f rs qs (f (0 ∷ v)) z) eb ∙ sym (first_on plain_rule f alone alone rs qs v w miss)

-- ---- by whole paths, whose digests are the siblings
pub found_whole : (f : List ℕ → List ℕ) (p : ℕ) (pa pb v w a b : List ℕ) (ya yb : List Node)
    → ya ≡ first_chunks digest_len (levels pa) pa → yb ≡ first_chunks digest_len (levels pb) pb
    → collides f (0 ∷ v) (0 ∷ w) ≡ false → a ≡ f (0 ∷ v) → b ≡ f (0 ∷ w)
    → found f (past p ya) (past p yb) a b ≡ found f (from_leaf (levels pa) p pa) (from_leaf (levels pb) p pb) v w
found_whole f p pa pb v w a b ya yb ea eb miss ia ib =
    ap (λ rs. found f rs (past p yb) a b) (past_path pa p ya ea)
    ∙ ap (λ rs. found f (from_node (levels pa) p pa) rs a b) (past_path pb p yb eb)
    ∙ leaf_miss f (from_node (levels pa) p pa) (from_node (levels pb) p pb) v w a b miss ia ib

pub end_whole : (f : List ℕ → List ℕ) (p : ℕ) (path v a : List ℕ) (ys : List Node) → ys ≡ first_chunks digest_len (levels path) path → a ≡ f (0 ∷ v)
    → climb plain_rule f (past p ys) a ≡ climb plain_rule f (from_leaf (levels path) p path) v
end_whole f p path v a ys e i =
    ap (λ rs. climb plain_rule f rs a) (past_path path p ys e)
    ∙ ap (climb plain_rule f (from_node (levels path) p path)) i
    ∙ sym (climb_more plain_rule f alone (from_node (levels path) p path) v)

-- ---- the same, by the rungs that are left of a climb

pair_length : (s : Side) (x y : List ℕ) → length x ≡ digest_len → length y ≡ digest_len → length (input plain_rule (beside s y) x) ≡ 2 * digest_len + 1
pair_length right x y h k = simp length-append (omega arith)
pair_length left x y h k = simp length-append (omega arith)

-- what is answered and written where t is found
some_found : (o : Option Two) (t : Two) (n : ℕ) (x y x' y' : List ℕ) → o ≡ Some t → n ≡ length t.one → x' ≡ at_front t.one x → y' ≡ at_front t.other y
    → (◌≡◌ {A = Option ℕ} (Some n) (found_len o)) × (x' ≡ put_one o x) × (y' ≡ put_other o y)
some_found o t n x y x' y' e en ex ey =
    (ap (λ k. Some k) en ∙ ap found_len (sym e), ex ∙ ap (λ q. put_one q x) (sym e), ey ∙ ap (λ q. put_other q y) (sym e))

-- at level i of d, with siblings sa and sb
module _ (f : List ℕ → List ℕ) (d i p : ℕ) (pa pb a b sa sb : List ℕ) (ea : sa ≡ slot i pa) (eb : sb ≡ slot i pb) (below : i < d) (o : Option Two)
    (is : found f (rest d i p pa) (rest d i p pb) a b ≡ o) where
  step_a : rest d i p pa ≡ beside (side p) sa ∷ rest d (i + 1) (p / 2) pa
  step_a = left_more d i p pa below ∙ ap (λ z. beside (side p) z ∷ rest d (i + 1) (p / 2) pa) (sym ea)

  step_b : rest d i p pb ≡ beside (side p) sb ∷ rest d (i + 1) (p / 2) pb
  step_b = left_more d i p pb below ∙ ap (λ z. beside (side p) z ∷ rest d (i + 1) (p / 2) pb) (sym eb)

  rung_opened : found f (beside (side p) sa ∷ rest d (i + 1) (p / 2) pa) (beside (side p) sb ∷ rest d (i + 1) (p / 2) pb) a b ≡ o
  rung_opened =
      sym (ap (λ rs. found f rs (rest d i p pb) a b) step_a ∙ ap (λ rs. found f (beside (side p) sa ∷ rest d (i + 1) (p / 2) pa) rs a b) step_b) ∙ is

  -- a collision here
  pub rung_hit : (x y x' y' : List ℕ) → length a ≡ digest_len → length sa ≡ digest_len
      → collides f (input plain_rule (beside (side p) sa) a) (input plain_rule (beside (side p) sb) b) ≡ true
      → x' ≡ at_front (input plain_rule (beside (side p) sa) a) x → y' ≡ at_front (input plain_rule (beside (side p) sb) b) y
      → (◌≡◌ {A = Option ℕ} (Some (2 * digest_len + 1)) (found_len o)) × (x' ≡ put_one o x) × (y' ≡ put_other o y)
  rung_hit x y x' y' la ls hit ex ey =
      some_found o (record { one = input plain_rule (beside (side p) sa) a; other = input plain_rule (beside (side p) sb) b }) (2 * digest_len + 1) x y x' y'
      (sym rung_opened ∙ first_here plain_rule f _ _ _ _ a b hit) (sym (pair_length (side p) a sa la ls)) ex ey

  -- none here
  pub rung_miss : (a' b' : List ℕ) → collides f (input plain_rule (beside (side p) sa) a) (input plain_rule (beside (side p) sb) b) ≡ false
      → a' ≡ above plain_rule f (beside (side p) sa) a → b' ≡ above plain_rule f (beside (side p) sb) b
      → found f (rest d (i + 1) (p / 2) pa) (rest d (i + 1) (p / 2) pb) a' b' ≡ o
  rung_miss a' b' miss up-a up-b =
      ap (λ z. found f (rest d (i + 1) (p / 2) pa) (rest d (i + 1) (p / 2) pb) z b') up-a
      ∙ ap (λ z. found f (rest d (i + 1) (p / 2) pa) (rest d (i + 1) (p / 2) pb) (above plain_rule f (beside (side p) sa) a) z) up-b
      ∙ sym (first_on plain_rule f _ _ _ _ a b miss)
      ∙ rung_opened

pub no_rung : (f : List ℕ → List ℕ) (d i p : ℕ) (pa pb a b : List ℕ) → d ≤ i → found f (rest d i p pa) (rest d i p pb) a b ≡ None
no_rung f d i p pa pb a b h =
    ap (λ rs. found f rs (rest d i p pb) a b) (left_all d i p pa h) ∙ ap (λ rs. found f [] rs a b) (left_all d i p pb h) ∙ first_none plain_rule f a b

-- at the leaves, with what is answered and written
module _ (f : List ℕ → List ℕ) (rs qs : List Rung) (a b : List ℕ) where
  pub leaf_written : (x y x' y' : List ℕ) → collides f (0 ∷ a) (0 ∷ b) ≡ true → x' ≡ at_front (0 ∷ a) x → y' ≡ at_front (0 ∷ b) y
      → (◌≡◌ {A = Option ℕ} (Some (length a + 1)) (found_len (found f (alone ∷ rs) (alone ∷ qs) a b)))
      × (x' ≡ put_one (found f (alone ∷ rs) (alone ∷ qs) a b) x) × (y' ≡ put_other (found f (alone ∷ rs) (alone ∷ qs) a b) y)
  leaf_written x y x' y' hit ex ey =
      some_found _ (record { one = 0 ∷ a; other = 0 ∷ b }) (length a + 1) x y x' y' (first_here plain_rule f alone alone rs qs a b hit) (add-one (length a)) ex ey
