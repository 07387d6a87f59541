-- Two climbs from different strings that end alike show a collision: two different strings in hand that have one digest. (That some
-- collision exists is true of every function to digests, by counting, so nothing here concludes it.)
use Rattle.std.specs.Prelude.{◌≡◌, ℕ, ◌<◌, Bool, cond, not, ◌&&◌, List, [], ◌∷◌, length, get_or, Some, None, Option, ◌≢◌, slice_index_or}
use Rattle.std.specs.Str.{bytes_eq}
use Rattle.hash.specs.Digests.{digest_len}
use Rattle.merkle.specs.Tree.{Side}
use Rattle.merkle.specs.Climb.{Node, Rule, Rung, alone, beside, leaf_of, join_of, climb, inputs, plain_rule}

-- two strings
pub record Two : Type 0 where
  pub one : List ℕ
  pub other : List ℕ

-- different, with one digest
abbrev pub Collision : (List ℕ → List ℕ) → Two → Type 0
Collision f t = (t.one ≢ t.other) × (f t.one ≡ f t.other)

abbrev pub collides : (List ℕ → List ℕ) → List ℕ → List ℕ → Bool
collides f x y = not (bytes_eq x y) && bytes_eq (f x) (f y)

-- of two lists of strings, the two at the first level where they differ and their digests agree
unfoldable pub first_collision : (List ℕ → List ℕ) → List (List ℕ) → List (List ℕ) → Option Two
first_collision f [] ys = None
first_collision f (x ∷ xs) [] = None
first_collision f (x ∷ xs) (y ∷ ys) = cond (collides f x y) (Some (record { one = x; other = y })) (first_collision f xs ys)

-- the first collision of two climbs, from x and from y
abbrev pub found : (List ℕ → List ℕ) → List Rung → List Rung → List ℕ → List ℕ → Option Two
found f rs qs x y = first_collision f (inputs plain_rule f rs x) (inputs plain_rule f qs y)

-- what was found first, or else what was found then
abbrev pub or_else : Option Two → Option Two → Option Two
or_else None o = o
or_else (Some t) o = Some t

-- What a rule owes so that its climbs bind: `fit` holds of its leaf values, and `ok` of its nodes.
pub record Binding (R : Rule) (f : List ℕ → List ℕ) (fit ok : List ℕ → Type 0) : Type 0 where
  pub node_fits : (x : Node) → ok x → fit x
  pub leaf_ok : (v : List ℕ) → fit v → ok (leaf_of R f v)
  pub join_ok : (l r : Node) → ok l → ok r → ok (join_of R f l r)
  -- equal inputs have equal parts
  pub leaf_binds : (v v' : List ℕ) → R.leaf_input v ≡ R.leaf_input v' → v ≡ v'
  pub join_binds : (l r l' r' : Node) → ok l → ok l' → R.join_input l r ≡ R.join_input l' r' → (l ≡ l') × (r ≡ r')
  -- equal nodes have equal digests
  pub leaf_shows : (v v' h h' : List ℕ) → fit v → fit v' → R.leaf_node v h ≡ R.leaf_node v' h' → h ≡ h'
  pub join_shows : (l r l' r' : Node) (h h' : List ℕ) → ok l → ok l' → ok r → ok r' → R.join_node l r h ≡ R.join_node l' r' h' → h ≡ h'

-- climbs along the same sides, beside nodes that are in order
pub data Alike (ok : Node → Type 0) : List Rung → List Rung → Type 0 where
  ends : Alike ok [] []
  leaves : {rs qs : List Rung} → Alike ok rs qs → Alike ok (alone ∷ rs) (alone ∷ qs)
  pairs : (s : Side) {y y' : Node} → ok y → ok y' → {rs qs : List Rung} → Alike ok rs qs → Alike ok (beside s y ∷ rs) (beside s y' ∷ qs)

-- `first_collision` computes two strings, and they are a collision
abbrev pub Shows : (List ℕ → List ℕ) → List (List ℕ) → List (List ℕ) → Type 0
Shows f xs ys = (t : Two) × (first_collision f xs ys ≡ Some t) × Collision f t

-- Climbs bind: those along the same sides, from different leaf values to one node, show their first collision.
abbrev pub Binds : Rule → (List ℕ → List ℕ) → (List ℕ → Type 0) → (Node → Type 0) → Type 0
Binds R f fit ok =
    (v v' : List ℕ) (rs qs : List Rung) → fit v → fit v' → Alike ok rs qs → (v ≢ v')
    → climb R f (alone ∷ rs) v ≡ climb R f (alone ∷ qs) v'
    → Shows f (inputs R f (alone ∷ rs) v) (inputs R f (alone ∷ qs) v')

-- the same from different nodes
abbrev pub NodesBind : Rule → (List ℕ → List ℕ) → (Node → Type 0) → Type 0
NodesBind R f ok =
    (x y : Node) (rs qs : List Rung) → ok x → ok y → Alike ok rs qs → (x ≢ y)
    → climb R f rs x ≡ climb R f qs y
    → Shows f (inputs R f rs x) (inputs R f qs y)

-- any value is a leaf's, under the plain rule
abbrev pub Any : List ℕ → Type 0
Any v = Unit {0}

-- a node of the plain rule has a digest's length
abbrev pub Digest : Node → Type 0
Digest y = length y ≡ digest_len

-- t stands at the first level where the strings differ and their digests agree
pub record AtFirst (f : List ℕ → List ℕ) (xs ys : List (List ℕ)) (t : Two) : Type 0 where
  pub level : ℕ
  pub within : level < length xs
  pub one_is : get_or xs level [] ≡ t.one
  pub other_is : get_or ys level [] ≡ t.other
  pub collision : Collision f t
  pub before : (j : ℕ) → j < level → Collision f (record { one = slice_index_or xs j []; other = slice_index_or ys j [] }) → ⊥
