-- A part written over a buffer.
use Rattle.std.specs.Prelude.{ℕ, ◌+◌, Bool, cond, List, ◌++◌, length, take, drop, nat_le}

-- whether n bytes from place `at` on lie within a buffer of m
abbrev pub room_at : ℕ → ℕ → ℕ → Bool
room_at at n m = nat_le (at + n) m

-- a buffer once a part is written over it from place `at` on
abbrev pub over : ℕ → List ℕ → List ℕ → List ℕ
over at part out = take at out ++ (part ++ drop (at + length part) out)

-- the same, or the buffer as it was where the part does not fit
abbrev pub spliced : ℕ → List ℕ → List ℕ → List ℕ
spliced at part out = cond (room_at at (length part) (length out)) (over at part out) out
