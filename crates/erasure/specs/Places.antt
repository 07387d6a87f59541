-- Lists of places.
use Rattle.std.specs.Prelude.{ℕ, ◌+◌, Bool, true, ◌&&◌, List, [], ◌∷◌, nat_le, nat_lt}

-- the first place is low or more, each further one is larger than the one before, and all are below w
unfoldable pub rising_from : ℕ → ℕ → List ℕ → Bool
rising_from low w [] = true
rising_from low w (p ∷ ps) = nat_le low p && (nat_lt p w && rising_from (p + 1) w ps)

-- the places are strictly increasing and below w
abbrev pub rising_below : ℕ → List ℕ → Bool
rising_below w ps = rising_from 0 w ps
