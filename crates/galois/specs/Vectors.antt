-- The field's operations over whole shares, byte place by byte place.
use Rattle.std.specs.Prelude.{ℕ, List, [], ◌∷◌, map, bit_xor}
use Rattle.galois.specs.Field.{mul}

-- the sum of two shares, as long as the first one: where the second has ended, the first is left as it is
abbrev pub added : List ℕ → List ℕ → List ℕ
added [] ys = []
added (x ∷ xs) [] = x ∷ xs
added (x ∷ xs) (y ∷ ys) = bit_xor x y ∷ added xs ys

-- x, the polynomial, times each byte
abbrev pub doubled : List ℕ → List ℕ
doubled xs = map (mul 2) xs
