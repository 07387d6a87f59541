-- The lines of a square.
use Rattle.std.proofs.Common.{◌≡◌, ℕ, ◌+◌, ◌*◌, ◌<◌, ◌≤◌, true, List, length, sym, ◌∙◌, mul_assoc}
use Rattle.octets.specs.Shares.{share, byte_of}
use Rattle.octets.proofs.Shares.{share_length, share_from_bytes, same_from_bytes, buffer_length, buffer_byte}
use Rattle.octets.proofs.Cells.{cell_below, byte_row}
use Rattle.codes.specs.Code.{Table, SecondLaw, Places}
use Rattle.codes.specs.Words.{at, IsWord, Through}
use Rattle.erasure.specs.Places.{rising_below}
use Rattle.erasure.proofs.Rises.{rising_places}
use Rattle.erasure.proofs.Recovers.{no_other}
use Rattle.header.specs.declared.cell.Axis.{Axis}
use Rattle.header.specs.declared.cell.Axis.TheVariants.{Row, Column}
use Rattle.header.specs.Lines.{row_at, col_at}
use Rattle.extension.specs.Square.{cell_byte}
use Rattle.extension.specs.Lines.{line_shares, picked}
use Rattle.extension.specs.Laws.{OneThrough}

-- the cell at a place of a line is inside the square
pub row_below : (axis : Axis) (w i p : ℕ) → i < w → p < w → row_at axis i p < w
row_below Row w i p hi hp = hi
row_below Column w i p hi hp = hp

pub col_below : (axis : Axis) (w i p : ℕ) → i < w → p < w → col_at axis i p < w
col_below Row w i p hi hp = hp
col_below Column w i p hi hp = hi

pub line_length : (k s : ℕ) (axis : Axis) (i : ℕ) (sq : List ℕ) → length (line_shares k s axis i sq) ≡ 2 * k * s
unfolding line_shares
line_length k s axis i sq = buffer_length (2 * k) s (λ p b. cell_byte (2 * k) s (row_at axis i p) (col_at axis i p) b sq)

pub line_byte : (k s : ℕ) (axis : Axis) (i : ℕ) (sq : List ℕ) (p b : ℕ) → p < 2 * k → b < s
    → byte_of s p b (line_shares k s axis i sq) ≡ cell_byte (2 * k) s (row_at axis i p) (col_at axis i p) b sq
unfolding line_shares
line_byte k s axis i sq p b hp hb = buffer_byte (2 * k) s (λ p b. cell_byte (2 * k) s (row_at axis i p) (col_at axis i p) b sq) p b hp hb

-- share p of a line is the share of its cell
pub line_share : (k s : ℕ) (axis : Axis) (i : ℕ) (sq : List ℕ) (p : ℕ) → length sq ≡ 2 * k * (2 * k) * s → i < 2 * k → p < 2 * k
    → share s p (line_shares k s axis i sq) ≡ share s (row_at axis i p * (2 * k) + col_at axis i p) sq
line_share k s axis i sq p long hi hp =
    share_from_bytes s p (row_at axis i p * (2 * k) + col_at axis i p) (2 * k) (2 * k * (2 * k)) (line_shares k s axis i sq) sq
    (line_length k s axis i sq) long hp
    (cell_below (2 * k) (2 * k) (row_at axis i p) (col_at axis i p) (row_below axis (2 * k) i p hi hp) (col_below axis (2 * k) i p hi hp))
    (λ b hb. line_byte k s axis i sq p b hp hb)

-- a list of the right length with the right bytes is the line
pub line_from_bytes : (k s : ℕ) (axis : Axis) (i : ℕ) (sq xs : List ℕ) → length xs ≡ 2 * k * s
    → ((p : ℕ) → p < 2 * k → (b : ℕ) → b < s → byte_of s p b xs ≡ cell_byte (2 * k) s (row_at axis i p) (col_at axis i p) b sq)
    → xs ≡ line_shares k s axis i sq
line_from_bytes k s axis i sq xs long h =
    same_from_bytes (2 * k) s xs (line_shares k s axis i sq) long (line_length k s axis i sq)
    (λ p hp b hb. h p hp b hb ∙ sym (line_byte k s axis i sq p b hp hb))

-- a row is one part of the square
pub line_row : (k s i : ℕ) (sq : List ℕ) → length sq ≡ 2 * k * (2 * k) * s → i < 2 * k → line_shares k s Row i sq ≡ share (2 * k * s) i sq
line_row k s i sq long hi =
    sym (line_from_bytes k s Row i sq (share (2 * k * s) i sq)
    (share_length (2 * k * s) i (2 * k) sq (long ∙ mul_assoc (2 * k) (2 * k) s) hi)
    (λ p hp b hb. byte_row (2 * k) s i p b sq hp hb))

-- ---- shares picked from a line

pub picked_length : (k s : ℕ) (ps line : List ℕ) → length (picked k s ps line) ≡ k * s
unfolding picked
picked_length k s ps line = buffer_length k s (λ j b. byte_of s (at ps j) b line)

pub picked_byte : (k s : ℕ) (ps line : List ℕ) (j b : ℕ) → j < k → b < s → byte_of s j b (picked k s ps line) ≡ byte_of s (at ps j) b line
unfolding picked
picked_byte k s ps line j b hj hb = buffer_byte k s (λ j b. byte_of s (at ps j) b line) j b hj hb

pub picked_share : (k s w : ℕ) (ps line : List ℕ) (j : ℕ) → length line ≡ w * s → j < k → at ps j < w
    → share s j (picked k s ps line) ≡ share s (at ps j) line
picked_share k s w ps line j long hj hp =
    share_from_bytes s j (at ps j) k w (picked k s ps line) line (picked_length k s ps line) long hj hp (λ b hb. picked_byte k s ps line j b hj hb)

-- a word is the one through any k of its shares
pub word_through : (T : Table) → SecondLaw T → (k s : ℕ) → k ≤ 128 → (ps line : List ℕ) → IsWord T k s line
    → length ps ≡ k → rising_below (2 * k) ps ≡ true → OneThrough T k s ps line
word_through T second k s hk ps line word long rises =
    record { through = through; only = no_other T second k s hk ps (picked k s ps line) line places through }
  where
    places : Places k (at ps)
    places = rising_places k ps long rises

    through : Through T k s ps (picked k s ps line) line
    through = record { word = word; given = λ j hj. sym (picked_share k s (2 * k) ps line j word.long hj (places.below j hj)) }
