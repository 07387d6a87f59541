-- The sum of two shares, byte by byte.
use Rattle.std.proofs.Common.{◌≡◌, ℕ, zero, suc, ◌<◌, List, [], ◌∷◌, length, get_or, sym, refl, ap, le_of_suc-le-suc, not-suc-le-zero}
use lib.Bits.{bit_xor, xor_zero_r}
use Rattle.galois.specs.Vectors.{added}

pub length_added : (xs ys : List ℕ) → length (added xs ys) ≡ length xs
length_added [] ys = refl
length_added (x ∷ xs) [] = refl
length_added (x ∷ xs) (y ∷ ys) = ap suc (length_added xs ys)

pub get_d_added : (xs ys : List ℕ) (i : ℕ) → i < length xs → get_or (added xs ys) i 0 ≡ bit_xor (get_or xs i 0) (get_or ys i 0)
get_d_added [] ys i h = absurd (not-suc-le-zero h)
get_d_added (x ∷ xs) [] i h = sym (xor_zero_r (get_or (x ∷ xs) i 0))
get_d_added (x ∷ xs) (y ∷ ys) zero h = refl
get_d_added (x ∷ xs) (y ∷ ys) (suc i) h = get_d_added xs ys i (le_of_suc-le-suc h)
