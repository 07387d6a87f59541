-- A hash with sixteen digests, so that collisions are at hand: four bits of SHA-256, and zeros.
use Rattle.std.specs.Prelude.{ℕ, ◌%◌, List, ◌∷◌, replicate, slice_index}
use Rattle.sha256.specs.Message.{sha256}

unfoldable pub weakened : List ℕ → List ℕ
weakened d = slice_index d 0 % 16 ∷ replicate 31 0

abbrev pub weak : List ℕ → List ℕ
weak m = weakened (sha256 m)
