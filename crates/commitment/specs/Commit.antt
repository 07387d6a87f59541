-- Committing to a square.
use Rattle.std.specs.Prelude.{ℕ, cond, not, List, [], length, Ok, Err, Result}
use Rattle.octets.specs.Outcome.{Refused, plain}
use Rattle.erasure.specs.Limits.{ok_width, ok_size}
use Rattle.header.specs.Fields.{Fields}
use Rattle.commitment.specs.Roots.{roots_of, data_root_of, square_fits}

-- a header whose data root is still to come
abbrev pub blank : ℕ → ℕ → ℕ → ℕ → Fields
blank k s hash_kind code_kind = record { k = k; s = s; hash_kind = hash_kind; code_kind = code_kind; data_root = [] }

-- the header of a square: its data root is that over the square's roots
abbrev pub committed : (List ℕ → List ℕ) → Fields → List ℕ → Fields
committed f h sq = record { k = h.k; s = h.s; hash_kind = h.hash_kind; code_kind = h.code_kind; data_root = data_root_of f h (roots_of f h sq) }

-- what committing to a square answers, with a buffer of m bytes for the roots: refused by 1 for a wrong k, by 2 for a wrong s, by 3 for a
-- square or a buffer of wrong length
abbrev pub commit_outcome : (List ℕ → List ℕ) → Fields → List ℕ → ℕ → Result Fields Refused
commit_outcome f h sq m =
    cond (not (ok_width h.k)) (Err (plain 1)) (cond (not (ok_size h.s)) (Err (plain 2)) (cond (not (square_fits h (length sq) m)) (Err (plain 3)) (Ok (committed f h sq))))
