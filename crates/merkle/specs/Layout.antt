-- A whole tree as bytes: its levels one after the other, the leaves' first and the root last. Entry i of it is its digest i.
use Rattle.std.specs.Prelude.{ℕ, zero, suc, ◌+◌, ◌-◌, ◌*◌, ◌/◌, ◌^◌, List, [], ◌++◌, drop}
use Rattle.std.specs.List.{range_with_len, flat_map}
use Rattle.hash.specs.Digests.{digest_len}
use Rattle.merkle.specs.Tree.{node, flip}
use Rattle.merkle.specs.Climb.{Node, slot}

-- the first n nodes at height h
unfoldable pub level : (Node → Node → Node) → (ℕ → Node) → ℕ → ℕ → List ℕ
level join leaf h n = flat_map (node join leaf h) (range_with_len 0 n)

-- from height h, which has 2^k nodes, up to the root
unfoldable pub levels_from : (Node → Node → Node) → (ℕ → Node) → ℕ → ℕ → List ℕ
levels_from join leaf h zero = node join leaf h 0
levels_from join leaf h (suc k) = level join leaf h (2 ^ suc k) ++ levels_from join leaf (h + 1) k

-- the tree over 2^d leaves
abbrev pub tree_layout : (Node → Node → Node) → ℕ → (ℕ → Node) → List ℕ
tree_layout join d leaf = levels_from join leaf 0 d

-- its bytes: 2^(d+1) - 1 entries
abbrev pub tree_len : ℕ → ℕ
tree_len d = digest_len * (2 * 2 ^ d - 1)

-- the entry at which the nodes of height h begin
abbrev pub level_start : ℕ → ℕ → ℕ
level_start d h = 2 * 2 ^ d - 2 * 2 ^ (d - h)

-- the last entry of the bytes xs, taken for a tree over 2^d leaves
abbrev pub root_of : ℕ → List ℕ → Node
root_of d xs = slot (2 * 2 ^ d - 2) xs

-- the path of place p in them: the sibling's entry, and then the path of the place above in the levels above
unfoldable pub path_of : ℕ → ℕ → List ℕ → List ℕ
path_of zero p xs = []
path_of (suc d) p xs = slot (flip p) xs ++ path_of d (p / 2) (drop (digest_len * 2 ^ suc d) xs)
