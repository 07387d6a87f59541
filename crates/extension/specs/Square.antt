-- Squares of shares, and the extension of k by k shares to w by w, w being 2k. A square stands row by row in its buffer.
use Rattle.std.specs.Prelude.{ℕ, ◌+◌, ◌*◌, ◌/◌, ◌%◌, Bool, ◌&&◌, List, ◌==◌}
use Rattle.octets.specs.Shares.{byte_of, buffer}
use Rattle.codes.specs.Code.{Table, symbol}
use Rattle.codes.specs.Grid.{extended}
use Rattle.erasure.specs.Limits.{ok_width, ok_size}

-- byte b of the cell at row r and column c, in n by n shares of s bytes: the cell's number is r * n + c
abbrev pub cell_byte : ℕ → ℕ → ℕ → ℕ → ℕ → List ℕ → ℕ
cell_byte n s r c b xs = byte_of s (r * n + c) b xs

-- the n by n shares in which that byte is f r c b
unfoldable pub grid : ℕ → ℕ → (ℕ → ℕ → ℕ → ℕ) → List ℕ
grid n s f = buffer (n * n) s (λ m b. f (m / n) (m % n) b)

-- the square of k by k shares of data: the k rows are extended, then all w columns
unfoldable pub extension : Table → ℕ → ℕ → List ℕ → List ℕ
extension T k s d = grid (2 * k) s (λ r c b. extended T k (λ i j. cell_byte k s i j b d) r c)

-- the k columns extended first, then all w rows
unfoldable pub extension_by_columns : Table → ℕ → ℕ → List ℕ → List ℕ
extension_by_columns T k s d = grid (2 * k) s (λ r c b. symbol T k (λ j. symbol T k (λ i. cell_byte k s i j b d) r) c)

-- the k by k shares of a square's first k rows and columns
unfoldable pub quadrant : ℕ → ℕ → List ℕ → List ℕ
quadrant k s sq = grid k s (λ r c b. cell_byte (2 * k) s r c b sq)

-- k and s are allowed, and buffers of n and m bytes are the data and the square
unfoldable pub fill_fits : ℕ → ℕ → ℕ → ℕ → Bool
fill_fits k s n m = ok_width k && (ok_size s && (n == k * k * s && m == 2 * k * (2 * k) * s))
