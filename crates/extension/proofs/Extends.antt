-- The laws of extended squares.
use Rattle.std.proofs.Common.{◌≡◌, ℕ, ◌+◌, ◌*◌, ◌%◌, ◌<◌, ◌≤◌, List, length, get_or, sym, ap, ◌∙◌, arith}
use Rattle.octets.specs.Shares.{byte_of}
use Rattle.codes.specs.Code.{Table, FirstLaw, SecondLaw, symbol}
use Rattle.codes.specs.Grid.{extended}
use Rattle.codes.proofs.Grid.{grid_law}
use Rattle.codes.proofs.Words.{applied_data, applied_byte, applied_low, first_low, word_byte, word_from_bytes}
use Rattle.header.specs.declared.cell.Axis.TheVariants.{Row, Column}
use Rattle.extension.specs.Square.{cell_byte, extension, quadrant}
use Rattle.extension.specs.Lines.{line_shares}
use Rattle.extension.specs.Laws.{LinesCoded, LinesFromAny, CodedIsExtension}
use Rattle.extension.proofs.Squares.{extension_byte, extension_from_bytes, quadrant_byte, quadrant_from_bytes}
use Rattle.extension.proofs.Lines.{line_length, line_byte, word_through}

-- ---- one byte of each share

module _ (T : Table) (first : FirstLaw T) (k : ℕ) (hk : k ≤ 128) (d : ℕ → ℕ → ℕ) where
  -- column c of the first k is extended from the data alone
  pub extended_front : (r c : ℕ) → c < k → extended T k d r c ≡ symbol T k (λ i. d i c) r
  extended_front r c hc =
      applied_data k (T k r) (λ i. symbol T k (d i) c) (λ i. d i c % 256) (λ i hi. first_low T first k hk (d i) c hc)
      ∙ applied_low k (T k r) (λ i. d i c)

  -- row r is the codeword of its own first k
  pub extended_row : (r c : ℕ) → extended T k d r c ≡ symbol T k (λ j. extended T k d r j) c
  extended_row r c =
      grid_law T k d r c
      ∙ applied_data k (T k c) (λ j. symbol T k (λ i. d i j) r) (λ j. extended T k d r j) (λ j hj. sym (extended_front r j hj))

  -- and so is column c
  pub extended_column : (r c : ℕ) → extended T k d r c ≡ symbol T k (λ i. extended T k d i c) r
  extended_column r c =
      applied_data k (T k r) (λ i. symbol T k (d i) c) (λ i. extended T k d i c)
      (λ i hi. sym (first k hk (λ m. symbol T k (d m) c) i hi (applied_byte k (T k c) (d i))))

  pub extended_data : (r c : ℕ) → r < k → c < k → d r c < 256 → extended T k d r c ≡ d r c
  extended_data r c hr hc small = extended_front r c hc ∙ first k hk (λ i. d i c) r hr small

-- ---- the square

-- every line is a codeword
pub extension_lines : (T : Table) → FirstLaw T → (k s : ℕ) → k ≤ 128 → (d : List ℕ) → LinesCoded T k s (extension T k s d)
extension_lines T first k s hk d Row i hi =
    word_from_bytes T k s (line_shares k s Row i (extension T k s d)) (line_length k s Row i (extension T k s d))
    (λ p hp b hb.
    line_byte k s Row i (extension T k s d) p b hp hb ∙ extension_byte T k s d i p b hi hp hb
    ∙ extended_row T first k hk (λ i j. cell_byte k s i j b d) i p
    ∙ applied_data k (T k p) (λ j. extended T k (λ i j. cell_byte k s i j b d) i j) (λ j. byte_of s j b (line_shares k s Row i (extension T k s d)))
    (λ j hj. sym (line_byte k s Row i (extension T k s d) j b (omega arith) hb ∙ extension_byte T k s d i j b hi (omega arith) hb)))
extension_lines T first k s hk d Column i hi =
    word_from_bytes T k s (line_shares k s Column i (extension T k s d)) (line_length k s Column i (extension T k s d))
    (λ p hp b hb.
    line_byte k s Column i (extension T k s d) p b hp hb ∙ extension_byte T k s d p i b hp hi hb
    ∙ extended_column T first k hk (λ i j. cell_byte k s i j b d) p i
    ∙ applied_data k (T k p) (λ j. extended T k (λ i j. cell_byte k s i j b d) j i) (λ j. byte_of s j b (line_shares k s Column i (extension T k s d)))
    (λ j hj. sym (line_byte k s Column i (extension T k s d) j b (omega arith) hb ∙ extension_byte T k s d j i b (omega arith) hi hb)))

-- and the only one through any k of its shares
pub extension_through : (T : Table) → FirstLaw T → SecondLaw T → (k s : ℕ) → k ≤ 128 → (d : List ℕ) → LinesFromAny T k s (extension T k s d)
extension_through T first second k s hk d axis i hi ps long rises =
    word_through T second k s hk ps (line_shares k s axis i (extension T k s d)) (extension_lines T first k s hk d axis i hi) long rises

-- its first quadrant is the data
pub extension_quadrant : (T : Table) → FirstLaw T → (k s : ℕ) → k ≤ 128 → (d : List ℕ) → length d ≡ k * k * s → ((n : ℕ) → get_or d n 0 < 256)
    → quadrant k s (extension T k s d) ≡ d
extension_quadrant T first k s hk d long small =
    sym (quadrant_from_bytes k s (extension T k s d) d long
    (λ r c hr hc b hb.
    sym (extension_byte T k s d r c b (omega arith) (omega arith) hb
    ∙ extended_data T first k hk (λ i j. cell_byte k s i j b d) r c hr hc (small ((r * k + c) * s + b)))))

-- which therefore gives it back
pub extension_own : (T : Table) → FirstLaw T → (k s : ℕ) → k ≤ 128 → (d : List ℕ) → length d ≡ k * k * s → ((n : ℕ) → get_or d n 0 < 256)
    → extension T k s (quadrant k s (extension T k s d)) ≡ extension T k s d
extension_own T first k s hk d long small = ap (extension T k s) (extension_quadrant T first k s hk d long small)

-- ---- any square whose lines are codewords

pub coded_is_extension : CodedIsExtension
coded_is_extension T k s sq long coded =
    extension_from_bytes T k s (quadrant k s sq) sq long
    (λ r c hr hc b hb.
    column r c hr hc b hb
    ∙ applied_data k (T k r) (λ i. cell_byte (2 * k) s i c b sq) (λ i. symbol T k (λ j. cell_byte k s i j b (quadrant k s sq)) c)
    (λ i hi. row i c (omega arith) hc b hb
    ∙ applied_data k (T k c) (λ j. cell_byte (2 * k) s i j b sq) (λ j. cell_byte k s i j b (quadrant k s sq))
    (λ j hj. sym (quadrant_byte k s sq i j b hi hj hb))))
  where
    row : (r c : ℕ) → r < 2 * k → c < 2 * k → (b : ℕ) → b < s → cell_byte (2 * k) s r c b sq ≡ symbol T k (λ j. cell_byte (2 * k) s r j b sq) c
    row r c hr hc b hb =
        sym (line_byte k s Row r sq c b hc hb) ∙ word_byte T k s (line_shares k s Row r sq) (coded Row r hr) c b hc hb
        ∙ applied_data k (T k c) (λ j. byte_of s j b (line_shares k s Row r sq)) (λ j. cell_byte (2 * k) s r j b sq)
        (λ j hj. line_byte k s Row r sq j b (omega arith) hb)

    column : (r c : ℕ) → r < 2 * k → c < 2 * k → (b : ℕ) → b < s → cell_byte (2 * k) s r c b sq ≡ symbol T k (λ i. cell_byte (2 * k) s i c b sq) r
    column r c hr hc b hb =
        sym (line_byte k s Column c sq r b hr hb) ∙ word_byte T k s (line_shares k s Column c sq) (coded Column c hc) r b hr hb
        ∙ applied_data k (T k r) (λ i. byte_of s i b (line_shares k s Column c sq)) (λ i. cell_byte (2 * k) s i c b sq)
        (λ i hi. line_byte k s Column c sq i b (omega arith) hb)

-- two of them with one first quadrant are equal
pub coded_same : (T : Table) (k s : ℕ) (xs ys : List ℕ) → length xs ≡ 2 * k * (2 * k) * s → length ys ≡ 2 * k * (2 * k) * s
    → LinesCoded T k s xs → LinesCoded T k s ys → quadrant k s xs ≡ quadrant k s ys → xs ≡ ys
coded_same T k s xs ys lx ly cx cy e =
    coded_is_extension T k s xs lx cx ∙ ap (extension T k s) e ∙ sym (coded_is_extension T k s ys ly cy)
