-- The code's rows as lists of lanes, and the steps on one row.
use Rattle.std.specs.Prelude.{ℕ, ◌+◌, ◌*◌, List, [], ◌∷◌, bit_and, bit_xor}
use Rattle.sha3.specs.declared.permutation.Row.{Row}
use Rattle.sha3.specs.declared.permutation.State.{State}
use Rattle.sha3.specs.Keccak.{rotl, flip}
use Rattle.sha3.specs.Sponge.{lane_at}

-- a row's lanes before those of the rows behind it
abbrev pub before : Row → List ℕ → List ℕ
before r rest = r.a ∷ r.b ∷ r.c ∷ r.d ∷ r.e ∷ rest

-- all lanes in the order of their numbers
abbrev pub lanes : State → List ℕ
lanes s = before s.r0 (before s.r1 (before s.r2 (before s.r3 (before s.r4 []))))

-- lane by lane
abbrev pub xor_row : Row → Row → Row
xor_row p q = record { a = bit_xor p.a q.a; b = bit_xor p.b q.b; c = bit_xor p.c q.c; d = bit_xor p.d q.d; e = bit_xor p.e q.e }

-- what theta adds to every row, from the sums of the columns
abbrev pub effect_row : Row → Row
effect_row p = record { a = bit_xor p.e (rotl p.b 1); b = bit_xor p.a (rotl p.c 1); c = bit_xor p.b (rotl p.d 1); d = bit_xor p.c (rotl p.e 1); e = bit_xor p.d (rotl p.a 1) }

-- chi on one row
abbrev pub chi_row : Row → Row
chi_row p = record {
  a = bit_xor p.a (bit_and (flip p.b) p.c);
  b = bit_xor p.b (bit_and (flip p.c) p.d);
  c = bit_xor p.c (bit_and (flip p.d) p.e);
  d = bit_xor p.d (bit_and (flip p.e) p.a);
  e = bit_xor p.e (bit_and (flip p.a) p.b);
}

-- rho on one row, by these numbers of bits
abbrev pub turn_row : Row → ℕ → ℕ → ℕ → ℕ → ℕ → Row
turn_row p i j k l m = record { a = rotl p.a i; b = rotl p.b j; c = rotl p.c k; d = rotl p.d l; e = rotl p.e m }

-- the five lanes of a block p from lane i on
abbrev pub row_at : List ℕ → ℕ → Row
row_at p i = record { a = lane_at p (8 * i); b = lane_at p (8 * (i + 1)); c = lane_at p (8 * (i + 2)); d = lane_at p (8 * (i + 3)); e = lane_at p (8 * (i + 4)) }
