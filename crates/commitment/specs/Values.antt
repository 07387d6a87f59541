-- Trees over values of one size that lie one after the other in a buffer.
use Rattle.std.specs.Prelude.{ℕ, ◌*◌, ◌^◌, Bool, ◌&&◌, List, ◌==◌, nat_le}
use Rattle.octets.specs.Shares.{share}
use Rattle.hash.specs.Digests.{parts_limit}
use Rattle.layout.specs.Answers.{depth_limit, is_tree}
use Rattle.merkle.specs.Tree.{root}
use Rattle.merkle.specs.Climb.{Node, plain_rule, leaf_of, join_of}
use Rattle.merkle.specs.Layout.{tree_layout}

-- the node of the leaf whose value is value n of the buffer, s bytes long
abbrev pub value_leaf : (List ℕ → List ℕ) → ℕ → List ℕ → ℕ → Node
value_leaf f s xs n = leaf_of plain_rule f (share s n xs)

-- the tree over the first 2^d values, laid out, and its root
unfoldable pub value_tree : (List ℕ → List ℕ) → ℕ → ℕ → List ℕ → List ℕ
value_tree f d s xs = tree_layout (join_of plain_rule f) d (value_leaf f s xs)

unfoldable pub value_root : (List ℕ → List ℕ) → ℕ → ℕ → List ℕ → Node
value_root f d s xs = root (join_of plain_rule f) d (value_leaf f s xs)

-- a tree can be so deep and a leaf's value so long, and 2^d values of s bytes have n bytes
abbrev pub values_fit : ℕ → ℕ → ℕ → Bool
values_fit d s n = nat_le d depth_limit && (nat_le s parts_limit && n == 2 ^ d * s)

-- 2^d values of s bytes have n bytes, and their tree has m
abbrev pub tree_fits : ℕ → ℕ → ℕ → ℕ → Bool
tree_fits d s n m = is_tree d m && (nat_le s parts_limit && n == 2 ^ d * s)

-- 2^d values of s bytes have n bytes, and their tree is no deeper than a data tree can be
abbrev pub root_fits : ℕ → ℕ → ℕ → Bool
root_fits d s n = nat_le d 7 && (nat_le s parts_limit && n == 2 ^ d * s)
