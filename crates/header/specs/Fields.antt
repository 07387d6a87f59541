-- What a header holds. All that is said of blocks is said of these fields.
use Rattle.std.specs.Prelude.{ℕ, cond, not, List, length, replicate, Ok, Err, Result, ◌==◌}
use Rattle.octets.specs.Outcome.{Refused, plain}
use Rattle.hash.specs.Digests.{digest_len}
use Rattle.erasure.specs.Limits.{ok_width, ok_size}
use Rattle.header.specs.declared.header.Header.{Header}

pub record Fields : Type 0 where
  -- the half-width, and the bytes of a share
  pub k : ℕ
  pub s : ℕ
  pub hash_kind : ℕ
  pub code_kind : ℕ
  pub data_root : List ℕ

abbrev pub fields_of : Header → Fields
fields_of h = record { k = h.k; s = h.s; hash_kind = h.hash_kind; code_kind = h.code_kind; data_root = h.data_root }

-- a block of this k and this share size, as far as its lengths and cells go
abbrev pub shape : ℕ → ℕ → Fields
shape k s = record { k = k; s = s; hash_kind = 0; code_kind = 0; data_root = replicate digest_len 0 }

-- making a header: refused by 1 for a wrong k, by 2 for a wrong s, by 3 for a root of another length than a digest
abbrev pub header_outcome : Fields → Result Fields Refused
header_outcome h =
    cond (not (ok_width h.k)) (Err (plain 1)) (cond (not (ok_size h.s)) (Err (plain 2)) (cond (not (length h.data_root == digest_len)) (Err (plain 3)) (Ok h)))
