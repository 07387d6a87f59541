-- Squares by their bytes.
use Rattle.std.proofs.Common.{◌≡◌, ℕ, ◌+◌, ◌*◌, ◌/◌, ◌%◌, ◌<◌, List, length, sym, ap, ◌∙◌}
use Rattle.std.proofs.lemmas.Nat.{div-mul-add, mod-mul-add}
use Rattle.octets.proofs.Shares.{buffer_length, buffer_byte}
use Rattle.octets.proofs.Cells.{cell_below, same_from_cells}
use Rattle.codes.specs.Code.{Table}
use Rattle.codes.specs.Grid.{extended}
use Rattle.codes.proofs.Grid.{grid_law}
use Rattle.extension.specs.Square.{cell_byte, grid, extension, extension_by_columns, quadrant}

pub grid_length : (n s : ℕ) (f : ℕ → ℕ → ℕ → ℕ) → length (grid n s f) ≡ n * n * s
unfolding grid
grid_length n s f = buffer_length (n * n) s (λ m b. f (m / n) (m % n) b)

pub grid_byte : (n s : ℕ) (f : ℕ → ℕ → ℕ → ℕ) (r c b : ℕ) → r < n → c < n → b < s → cell_byte n s r c b (grid n s f) ≡ f r c b
unfolding grid
grid_byte n s f r c b hr hc hb =
    buffer_byte (n * n) s (λ m b. f (m / n) (m % n) b) (r * n + c) b (cell_below n n r c hr hc) hb
    ∙ ap (λ (m : ℕ). f m ((r * n + c) % n) b) (div-mul-add r n c hc) ∙ ap (λ (m : ℕ). f r m b) (mod-mul-add r n c hc)

-- a list of the right length with the right bytes is the square
pub grid_from_bytes : (n s : ℕ) (f : ℕ → ℕ → ℕ → ℕ) (xs : List ℕ) → length xs ≡ n * n * s
    → ((r c : ℕ) → r < n → c < n → (b : ℕ) → b < s → cell_byte n s r c b xs ≡ f r c b) → xs ≡ grid n s f
grid_from_bytes n s f xs long h =
    same_from_cells n n s xs (grid n s f) long (grid_length n s f) (λ r c hr hc b hb. h r c hr hc b hb ∙ sym (grid_byte n s f r c b hr hc hb))

-- ---- the extension

pub extension_length : (T : Table) (k s : ℕ) (d : List ℕ) → length (extension T k s d) ≡ 2 * k * (2 * k) * s
unfolding extension
extension_length T k s d = grid_length (2 * k) s (λ r c b. extended T k (λ i j. cell_byte k s i j b d) r c)

pub extension_byte : (T : Table) (k s : ℕ) (d : List ℕ) (r c b : ℕ) → r < 2 * k → c < 2 * k → b < s
    → cell_byte (2 * k) s r c b (extension T k s d) ≡ extended T k (λ i j. cell_byte k s i j b d) r c
unfolding extension
extension_byte T k s d r c b hr hc hb = grid_byte (2 * k) s (λ r c b. extended T k (λ i j. cell_byte k s i j b d) r c) r c b hr hc hb

pub extension_from_bytes : (T : Table) (k s : ℕ) (d xs : List ℕ) → length xs ≡ 2 * k * (2 * k) * s
    → ((r c : ℕ) → r < 2 * k → c < 2 * k → (b : ℕ) → b < s → cell_byte (2 * k) s r c b xs ≡ extended T k (λ i j. cell_byte k s i j b d) r c)
    → xs ≡ extension T k s d
unfolding extension
extension_from_bytes T k s d xs long h = grid_from_bytes (2 * k) s (λ r c b. extended T k (λ i j. cell_byte k s i j b d) r c) xs long h

-- columns first gives the same
pub extension_by_columns_lem : (T : Table) (k s : ℕ) (d : List ℕ) → extension T k s d ≡ extension_by_columns T k s d
unfolding extension_by_columns
extension_by_columns_lem T k s d =
    grid_from_bytes (2 * k) s _ (extension T k s d) (extension_length T k s d)
    (λ r c hr hc b hb. extension_byte T k s d r c b hr hc hb ∙ grid_law T k (λ i j. cell_byte k s i j b d) r c)

-- ---- the first quadrant

pub quadrant_length : (k s : ℕ) (sq : List ℕ) → length (quadrant k s sq) ≡ k * k * s
unfolding quadrant
quadrant_length k s sq = grid_length k s (λ r c b. cell_byte (2 * k) s r c b sq)

pub quadrant_byte : (k s : ℕ) (sq : List ℕ) (r c b : ℕ) → r < k → c < k → b < s
    → cell_byte k s r c b (quadrant k s sq) ≡ cell_byte (2 * k) s r c b sq
unfolding quadrant
quadrant_byte k s sq r c b hr hc hb = grid_byte k s (λ r c b. cell_byte (2 * k) s r c b sq) r c b hr hc hb

pub quadrant_from_bytes : (k s : ℕ) (sq d : List ℕ) → length d ≡ k * k * s
    → ((r c : ℕ) → r < k → c < k → (b : ℕ) → b < s → cell_byte k s r c b d ≡ cell_byte (2 * k) s r c b sq) → d ≡ quadrant k s sq
unfolding quadrant
quadrant_from_bytes k s sq d long h = grid_from_bytes k s (λ r c b. cell_byte (2 * k) s r c b sq) d long h
