-- What a store means: a k, a share size and, for each cell, nothing or one evidence.
use Rattle.std.specs.Prelude.{◌≡◌, ℕ, true, [], Option}
use Rattle.erasure.specs.Limits.{ok_width, ok_size}
use Rattle.header.specs.Fields.{Fields}
use Rattle.evidence.specs.Evidence.{Evidence}

pub record Meaning : Type 0 where
  pub k : ℕ
  pub s : ℕ
  -- by row and column
  pub at : ℕ → ℕ → Option Evidence

-- k and the share size are allowed
abbrev pub Bounded : Meaning → Type 0
Bounded m = (ok_width m.k ≡ true) × (ok_size m.s ≡ true)

-- a block of this k and this share size, as far as its lengths and cells go
abbrev pub block : ℕ → ℕ → Fields
block k s = record { k = k; s = s; hash_kind = 0; code_kind = 0; data_root = [] }
