-- Climbs: what is hashed on the way from a string to a root.
use Rattle.std.specs.Prelude.{ℕ, zero, suc, ◌*◌, ◌/◌, List, [], ◌∷◌, ◌++◌, length, take, drop}
use Rattle.hash.specs.Digests.{digest_len}
use Rattle.merkle.specs.Tree.{Side, sides, paired}

-- a node is its bytes
abbrev pub Node : Type 0
Node = List ℕ

-- A kind of tree: the string that is hashed for a leaf's value and for a pair of nodes, and the node that comes of its digest, which
-- need not be the digest alone.
pub record Rule : Type 0 where
  pub leaf_input : List ℕ → List ℕ
  pub leaf_node : List ℕ → List ℕ → Node
  pub join_input : Node → Node → List ℕ
  pub join_node : Node → Node → List ℕ → Node

-- The rule of RFC 6962: for a leaf lead 0x00 and the value, for a pair lead 0x01, left and right; the node is the digest.
abbrev pub plain_rule : Rule
plain_rule = record {
  leaf_input = λ v. 0 ∷ v;
  leaf_node = λ v h. h;
  join_input = λ l r. 1 ∷ (l ++ r);
  join_node = λ l r h. h;
}

-- the node of a leaf's value, and that of a pair, under a hash f
abbrev pub leaf_of : Rule → (List ℕ → List ℕ) → List ℕ → Node
leaf_of R f v = R.leaf_node v (f (R.leaf_input v))

abbrev pub join_of : Rule → (List ℕ → List ℕ) → Node → Node → Node
join_of R f l r = R.join_node l r (f (R.join_input l r))

-- One step of a climb. The string that has been reached is a leaf's value, or it is a node beside its sibling.
pub data Rung : Type 0 where
  alone : Rung
  beside : Side → Node → Rung

-- siblings on their sides
unfoldable pub rungs : List Side → List Node → List Rung
rungs [] ys = []
rungs (s ∷ ss) [] = []
rungs (s ∷ ss) (y ∷ ys) = beside s y ∷ rungs ss ys

-- from a node at place p past the siblings in a list
abbrev pub past : ℕ → List Node → List Rung
past p ys = rungs (sides (length ys) p) ys

-- the string that a step hashes
abbrev pub input : Rule → Rung → List ℕ → List ℕ
input R alone x = R.leaf_input x
input R (beside s y) x = paired R.join_input s x y

-- the node that it gives
abbrev pub above : Rule → (List ℕ → List ℕ) → Rung → List ℕ → Node
above R f alone x = leaf_of R f x
above R f (beside s y) x = paired (join_of R f) s x y

-- where a climb ends
unfoldable pub climb : Rule → (List ℕ → List ℕ) → List Rung → List ℕ → Node
climb R f [] x = x
climb R f (r ∷ rs) x = climb R f rs (above R f r x)

-- the strings hashed on the way, lead bytes included
unfoldable pub inputs : Rule → (List ℕ → List ℕ) → List Rung → List ℕ → List (List ℕ)
inputs R f [] x = []
inputs R f (r ∷ rs) x = input R r x ∷ inputs R f rs (above R f r x)

-- ---- paths as bytes: digests one after the other

-- digest i of a row of them
abbrev pub slot : ℕ → List ℕ → Node
slot i xs = take digest_len (drop (digest_len * i) xs)

-- the first k digests of a row
unfoldable pub slots : ℕ → List ℕ → List Node
slots zero xs = []
slots (suc k) xs = take digest_len xs ∷ slots k (drop digest_len xs)

-- how many digests a row has, and so how many levels a path climbs
abbrev pub levels : List ℕ → ℕ
levels path = length path / digest_len

-- from a node at place p up d levels, by the first d digests of a path
abbrev pub from_node : ℕ → ℕ → List ℕ → List Rung
from_node d p path = rungs (sides d p) (slots d path)

-- the same from a leaf's value
abbrev pub from_leaf : ℕ → ℕ → List ℕ → List Rung
from_leaf d p path = alone ∷ from_node d p path

-- through two trees, one after the other: from the value of leaf p up the d levels of the first, whose root is the value of leaf q of
-- the second, and up the e levels of that
abbrev pub through_two : ℕ → ℕ → ℕ → ℕ → List ℕ → List Rung
through_two d p e q path = from_leaf d p path ++ from_leaf e q (drop (digest_len * d) path)

-- the end of the climb by a whole path, from a node at place p and from the value of leaf p
abbrev pub climb_node : (List ℕ → List ℕ) → ℕ → List ℕ → Node → Node
climb_node f p path x = climb plain_rule f (from_node (levels path) p path) x

abbrev pub climb_leaf : (List ℕ → List ℕ) → ℕ → List ℕ → List ℕ → Node
climb_leaf f p path v = climb plain_rule f (from_leaf (levels path) p path) v
