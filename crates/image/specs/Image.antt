-- An image: a square with the trees that answers by row need.
use Rattle.std.specs.Prelude.{ℕ, ◌+◌, Bool, cond, not, ◌&&◌, List, ◌++◌, Ok, Err, Result, ◌==◌}
use Rattle.std.specs.List.{range_with_len, flat_map}
use Rattle.octets.specs.Outcome.{Refused, plain}
use Rattle.hash.specs.Digests.{digest_len}
use Rattle.header.specs.Fields.{Fields}
use Rattle.header.specs.Sizes.{width, depth, square_len, image_len}
use Rattle.commitment.specs.Values.{value_tree}
use Rattle.commitment.specs.Roots.{line_tree, roots_of}

-- the trees of the first n rows, one after the other, each with its leaf digests first and its root last
unfoldable pub row_trees : (List ℕ → List ℕ) → Fields → List ℕ → ℕ → List ℕ
row_trees f h sq n = flat_map (line_tree f h sq) (range_with_len 0 n)

-- the tree over the roots of all lines, laid out alike
abbrev pub data_tree : (List ℕ → List ℕ) → Fields → List ℕ → List ℕ
data_tree f h sq = value_tree f (depth h + 1) digest_len (roots_of f h sq)

-- the image of a square: the square row by row, the trees of its rows, the data tree
abbrev pub image_of : (List ℕ → List ℕ) → Fields → List ℕ → List ℕ
image_of f h sq = sq ++ row_trees f h sq (width h) ++ data_tree f h sq

-- a square of n bytes and an image of m
abbrev pub image_fits : Fields → ℕ → ℕ → Bool
image_fits h n m = n == square_len h && m == image_len h

-- what laying out an image answers, under a hash of this kind: refused by 13 for another hash kind, by 3 for a square or an image of
-- wrong length
abbrev pub image_outcome : ℕ → Fields → ℕ → ℕ → Result (Unit {0}) Refused
image_outcome kind h n m = cond (not (h.hash_kind == kind)) (Err (plain 13)) (cond (not (image_fits h n m)) (Err (plain 3)) (Ok tt))
