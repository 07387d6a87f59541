-- One row of coefficients applied to parts of shares: of each share of `size` bytes, the bytes from a place on.
use Rattle.std.specs.Prelude.{ℕ, ◌+◌, ◌*◌, Bool, ◌&&◌, List, map, length, ◌==◌, nat_le, nat_lt}
use Rattle.std.specs.List.{range_with_len}
use Rattle.octets.specs.Shares.{byte_of}
use Rattle.codes.specs.Code.{applied}
use Rattle.codes.specs.Words.{at}

-- the sum of the n bytes from place `from` on of each share, each times its coefficient
unfoldable pub row_sum : List ℕ → ℕ → ℕ → ℕ → List ℕ → List ℕ
row_sum row size from n xs = map (λ b. applied (length row) (at row) (λ j. byte_of size j (from + b) xs)) (range_with_len 0 n)

-- a row of k coefficients, one at least, goes with m bytes if they are k shares, each of which has n bytes from that place on
unfoldable pub row_fits : ℕ → ℕ → ℕ → ℕ → ℕ → Bool
row_fits k m size from n = nat_lt 0 k && (nat_le (from + n) size && m == k * size)
