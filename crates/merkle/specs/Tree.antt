-- Trees over any way to join two nodes. N is what a node is, `join` makes a node of two, and `leaf i` is the node of leaf i.
use Rattle.std.specs.Prelude.{ℕ, zero, suc, ◌+◌, ◌-◌, ◌*◌, ◌/◌, ◌%◌, cond, List, [], ◌∷◌, ◌==◌}

-- node i at height h: a leaf, or the two nodes 2i and 2i + 1 below it joined
unfoldable pub node : {N : Type 0} → (N → N → N) → (ℕ → N) → ℕ → ℕ → N
node join leaf zero i = leaf i
node join leaf (suc h) i = join (node join leaf h (2 * i)) (node join leaf h (2 * i + 1))

-- the root over 2^d leaves
abbrev pub root : {N : Type 0} → (N → N → N) → ℕ → (ℕ → N) → N
root join d leaf = node join leaf d 0

-- where a sibling stands
pub data Side : Type 0 where
  right : Side
  left : Side

-- right of an even place, left of an odd one
abbrev pub side : ℕ → Side
side p = cond (p % 2 == 0) right left

-- the sibling's place
abbrev pub flip : ℕ → ℕ
flip p = cond (p % 2 == 0) (p + 1) (p - 1)

-- the sides of place p on the way up d levels: p's binary digits, the lowest first
unfoldable pub sides : ℕ → ℕ → List Side
sides zero p = []
sides (suc d) p = side p ∷ sides d (p / 2)

-- the siblings of node p at height h and of the d - 1 nodes above it, from the bottom up
unfoldable pub siblings : {N : Type 0} → (N → N → N) → (ℕ → N) → ℕ → ℕ → ℕ → List N
siblings join leaf h zero p = []
siblings join leaf h (suc d) p = node join leaf h (flip p) ∷ siblings join leaf (h + 1) d (p / 2)

-- the path of leaf p in the tree over 2^d leaves
abbrev pub path : {N : Type 0} → (N → N → N) → ℕ → (ℕ → N) → ℕ → List N
path join d leaf p = siblings join leaf 0 d p

-- node x and its sibling y, joined in the order in which they stand
abbrev pub paired : {N M : Type 0} → (N → N → M) → Side → N → N → M
paired join right x y = join x y
paired join left x y = join y x
