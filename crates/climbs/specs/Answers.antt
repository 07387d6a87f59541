-- Which lengths a climb takes.
use Rattle.std.specs.Prelude.{Bool, ◌&&◌, ℕ, ◌%◌, eqb, leb}
use Rattle.hash.specs.Digests.{digest_len, parts_limit}

-- n bytes are digests one after the other
abbrev pub is_path : ℕ → Bool
is_path n = eqb (n % digest_len) 0

-- a node and a path of these lengths
abbrev pub climb_node_fits : ℕ → ℕ → Bool
climb_node_fits node path = eqb node digest_len && is_path path

-- a leaf's value, a path and a buffer for the end
abbrev pub climb_leaf_fits : ℕ → ℕ → ℕ → Bool
climb_leaf_fits value path out = leb value parts_limit && is_path path && eqb out digest_len
