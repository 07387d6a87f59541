-- The roots of a square's lines, and the data root over them.
use Rattle.std.specs.Prelude.{ℕ, ◌+◌, ◌*◌, Bool, ◌&&◌, List, ◌==◌, nat_lt}
use Rattle.std.specs.List.{range_with_len, flat_map}
use Rattle.hash.specs.Digests.{digest_len}
use Rattle.merkle.specs.Tree.{root}
use Rattle.merkle.specs.Layout.{tree_layout}
use Rattle.merkle.specs.Climb.{Node, plain_rule, join_of}
use Rattle.header.specs.Fields.{Fields}
use Rattle.header.specs.Sizes.{depth, width, cell_on, line_count, square_len, roots_len, axis_tree_len}
use Rattle.commitment.specs.Values.{value_leaf, value_root}

-- in a square of width w, whose lines' trees have depth d: the node of the leaf at place p of line n, which is that of its cell's share
abbrev pub line_leaf : (List ℕ → List ℕ) → ℕ → ℕ → List ℕ → ℕ → ℕ → Node
line_leaf f w s sq n p = value_leaf f s sq (cell_on w n p)

-- the roots of the trees over the shares of its lines, one after the other: rows, then columns
unfoldable pub square_roots : (List ℕ → List ℕ) → ℕ → ℕ → ℕ → List ℕ → List ℕ
square_roots f w d s sq = flat_map (λ n. root (join_of plain_rule f) d (line_leaf f w s sq n)) (range_with_len 0 (2 * w))

-- the root of line n, and the roots of all lines, of a block's square
abbrev pub line_root : (List ℕ → List ℕ) → Fields → List ℕ → ℕ → Node
line_root f h sq n = root (join_of plain_rule f) (depth h) (line_leaf f (width h) h.s sq n)

abbrev pub roots_of : (List ℕ → List ℕ) → Fields → List ℕ → List ℕ
roots_of f h sq = square_roots f (width h) (depth h) h.s sq

-- the tree of line n, laid out
unfoldable pub line_tree : (List ℕ → List ℕ) → Fields → List ℕ → ℕ → List ℕ
line_tree f h sq n = tree_layout (join_of plain_rule f) (depth h) (line_leaf f (width h) h.s sq n)

-- the block has a line with number i, n bytes are its square, and m bytes the tree of a line
abbrev pub line_fits : Fields → ℕ → ℕ → ℕ → Bool
line_fits h i n m = nat_lt i (line_count h) && (n == square_len h && m == axis_tree_len h)

-- the data root over some roots: each is a leaf's value of the data tree
abbrev pub data_root_of : (List ℕ → List ℕ) → Fields → List ℕ → Node
data_root_of f h roots = value_root f (depth h + 1) digest_len roots

-- n bytes are a square of the block, and m bytes its roots
abbrev pub square_fits : Fields → ℕ → ℕ → Bool
square_fits h n m = n == square_len h && m == roots_len h
