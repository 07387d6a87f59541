-- What the calls on laid-out trees answer and write.
use Rattle.std.specs.Prelude.{ℕ, ◌+◌, ◌*◌, ◌^◌, Bool, cond, ◌&&◌, List, length, ◌==◌, nat_le, nat_lt}
use Rattle.octets.specs.Splice.{over}
use Rattle.hash.specs.Digests.{digest_len}
use Rattle.merkle.specs.Climb.{Node, plain_rule, join_of, slot}
use Rattle.merkle.specs.Layout.{tree_layout, tree_len, root_of, path_of}

-- the most levels that a tree has above its leaves
abbrev pub depth_limit : ℕ
depth_limit = 16

-- how many leaves a tree of depth d has: none where it is too deep to be one
abbrev pub leaf_count : ℕ → ℕ
leaf_count d = cond (nat_le d depth_limit) (2 ^ d) 0

-- n bytes are those of a tree of depth d
abbrev pub is_tree : ℕ → ℕ → Bool
is_tree d n = nat_le d depth_limit && n == tree_len d

-- a buffer after a tree was grown over the digests in front of it
abbrev pub grown : (List ℕ → List ℕ) → ℕ → List ℕ → List ℕ
grown f d xs = cond (is_tree d (length xs)) (tree_layout (join_of plain_rule f) d (λ i. slot i xs)) xs

-- a tree, and a buffer for its root
abbrev pub root_fits : ℕ → ℕ → ℕ → Bool
root_fits d n m = is_tree d n && m == digest_len

abbrev pub cut_root : ℕ → List ℕ → List ℕ → List ℕ
cut_root d xs out = cond (root_fits d (length xs) (length out)) (root_of d xs) out

-- a tree, a place in it, and a buffer for its path
abbrev pub path_fits : ℕ → ℕ → ℕ → ℕ → Bool
path_fits d p n m = is_tree d n && nat_lt p (2 ^ d) && m == digest_len * d

abbrev pub cut_path : ℕ → ℕ → List ℕ → List ℕ → List ℕ
cut_path d p xs out = cond (path_fits d p (length xs) (length out)) (path_of d p xs) out

-- a row of n bytes has an entry i
abbrev pub has_entry : ℕ → ℕ → Bool
has_entry i n = nat_le (digest_len * i + digest_len) n

-- a row of digests after one was written as entry i, where there is such an entry
abbrev pub put_at : ℕ → Node → List ℕ → List ℕ
put_at i node out = cond (has_entry i (length out)) (over (digest_len * i) node out) out

-- the same after entry i of a row was copied to entry k, and after entries i and j were joined to entry k
abbrev pub copied : ℕ → List ℕ → ℕ → List ℕ → List ℕ
copied i row k out = cond (has_entry i (length row)) (put_at k (slot i row) out) out

abbrev pub joined : (List ℕ → List ℕ) → ℕ → ℕ → ℕ → List ℕ → List ℕ
joined f i j k row = cond (has_entry i (length row) && has_entry j (length row)) (put_at k (join_of plain_rule f (slot i row) (slot j row)) row) row
