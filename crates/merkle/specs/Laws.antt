-- The laws of trees, climbs and layouts, under a hash f.
use Rattle.std.specs.Prelude.{◌≡◌, ℕ, ◌+◌, ◌-◌, ◌*◌, ◌^◌, ◌<◌, ◌≤◌, List, ◌++◌, length, take, Some, ◌≢◌}
use Rattle.hash.specs.Digests.{digest_len}
use Rattle.merkle.specs.Tree.{Side, node, root, path, sides}
use Rattle.merkle.specs.Climb.{Node, Rule, Rung, plain_rule, leaf_of, join_of, rungs, climb, inputs, slot, slots, through_two, climb_node}
use Rattle.merkle.specs.Binding.{Two, AtFirst, Shows, first_collision, found, or_else, Digest}
use Rattle.merkle.specs.Layout.{tree_layout, tree_len, level_start, root_of, path_of}

-- a tree's own path leads from its own leaf to its root, at every place
abbrev pub ClimbsOwn : (List ℕ → List ℕ) → Type 0
ClimbsOwn f =
    (R : Rule) (leaf : ℕ → Node) (d p : ℕ) → p < 2 ^ d
    → climb R f (rungs (sides d p) (path (join_of R f) d leaf p)) (leaf p) ≡ root (join_of R f) d leaf

-- sides, siblings, rungs and inputs are as many as the levels
pub record Lengths (f : List ℕ → List ℕ) : Type 0 where
  pub of_sides : (d p : ℕ) → length (sides d p) ≡ d
  pub of_path : (R : Rule) (leaf : ℕ → Node) (d p : ℕ) → length (path (join_of R f) d leaf p) ≡ d
  pub of_slots : (k : ℕ) (xs : List ℕ) → length (slots k xs) ≡ k
  pub of_rungs : (ss : List Side) (ys : List Node) → length ss ≡ length ys → length (rungs ss ys) ≡ length ys
  pub of_inputs : (R : Rule) (rs : List Rung) (x : List ℕ) → length (inputs R f rs x) ≡ length rs

-- a climb in two parts
pub record Parts (f : List ℕ → List ℕ) : Type 0 where
  pub of_climb : (R : Rule) (rs qs : List Rung) (x : List ℕ) → climb R f (rs ++ qs) x ≡ climb R f qs (climb R f rs x)
  pub of_inputs : (R : Rule) (rs qs : List Rung) (x : List ℕ) → inputs R f (rs ++ qs) x ≡ inputs R f rs x ++ inputs R f qs (climb R f rs x)

-- what `first_collision` computes is the first
abbrev pub FirstIs : (List ℕ → List ℕ) → Type 0
FirstIs f = (xs ys : List (List ℕ)) (t : Two) → first_collision f xs ys ≡ Some t → AtFirst f xs ys t

-- the first collision of two climbs in two parts is the first of their first parts, or else the first of their second parts
abbrev pub FirstInParts : (List ℕ → List ℕ) → Type 0
FirstInParts f =
    (rs rs' qs qs' : List Rung) (x y : List ℕ) → length rs ≡ length rs'
    → found f (rs ++ qs) (rs' ++ qs') x y ≡ or_else (found f rs rs' x y) (found f qs qs' (climb plain_rule f rs x) (climb plain_rule f rs' y))

-- climbs through two trees bind, from different values at the same places
abbrev pub TwoBind : (List ℕ → List ℕ) → Type 0
TwoBind f =
    (d p e q : ℕ) (v v' path path' : List ℕ) → digest_len * (d + e) ≤ length path → digest_len * (d + e) ≤ length path' → (v ≢ v')
    → climb plain_rule f (through_two d p e q path) v ≡ climb plain_rule f (through_two d p e q path') v'
    → Shows f (inputs plain_rule f (through_two d p e q path) v) (inputs plain_rule f (through_two d p e q path') v')

-- The layout of a tree under the plain rule, over 2^d leaves whose nodes are digests: its length, its entries, its root and paths; and
-- that climbing the path of a place, cut from it, leads from the leaf there to the root.
pub record LaysOut (f : List ℕ → List ℕ) (d : ℕ) (leaf : ℕ → Node) : Type 0 where
  pub long : length (tree_layout (join_of plain_rule f) d leaf) ≡ tree_len d
  pub entry : (h i : ℕ) → h ≤ d → i < 2 ^ (d - h) → slot (level_start d h + i) (tree_layout (join_of plain_rule f) d leaf) ≡ node (join_of plain_rule f) leaf h i
  pub last : root_of d (tree_layout (join_of plain_rule f) d leaf) ≡ root (join_of plain_rule f) d leaf
  pub path_long : (p : ℕ) → p < 2 ^ d → length (path_of d p (tree_layout (join_of plain_rule f) d leaf)) ≡ digest_len * d
  pub paths : (p : ℕ) → p < 2 ^ d → slots d (path_of d p (tree_layout (join_of plain_rule f) d leaf)) ≡ path (join_of plain_rule f) d leaf p
  pub climbs : (p : ℕ) → p < 2 ^ d → climb_node f p (path_of d p (tree_layout (join_of plain_rule f) d leaf)) (leaf p) ≡ root (join_of plain_rule f) d leaf

abbrev pub LayoutsStand : (List ℕ → List ℕ) → Type 0
LayoutsStand f = (d : ℕ) (leaf : ℕ → Node) → ((i : ℕ) → i < 2 ^ d → Digest (leaf i)) → LaysOut f d leaf

-- and so over the digests in front of some bytes, and that front is the layout's
abbrev pub FrontStands : (List ℕ → List ℕ) → Type 0
FrontStands f =
    (d : ℕ) (xs : List ℕ) → digest_len * 2 ^ d ≤ length xs
    → LaysOut f d (λ i. slot i xs) × (take (digest_len * 2 ^ d) (tree_layout (join_of plain_rule f) d (λ i. slot i xs)) ≡ take (digest_len * 2 ^ d) xs)

-- Two trees, the root of the first being the value of leaf q of the second: the path of leaf p of the first and that of q in the second,
-- cut from their layouts and joined, lead from the value of p to the second one's root.
abbrev pub ClimbsBoth : (List ℕ → List ℕ) → Type 0
ClimbsBoth f =
    (d p e q : ℕ) (leaf next : ℕ → Node) (v : List ℕ) → p < 2 ^ d → q < 2 ^ e
    → ((i : ℕ) → i < 2 ^ d → Digest (leaf i)) → ((i : ℕ) → i < 2 ^ e → Digest (next i))
    → leaf p ≡ leaf_of plain_rule f v → next q ≡ leaf_of plain_rule f (root (join_of plain_rule f) d leaf)
    → climb plain_rule f (through_two d p e q (path_of d p (tree_layout (join_of plain_rule f) d leaf) ++ path_of e q (tree_layout (join_of plain_rule f) e next))) v ≡ root (join_of plain_rule f) e next
