-- The collision that an accepted proof and the data of a correctly extended block give: the proof's climb and the extension's own differ
-- and end alike.
use Rattle.std.specs.Prelude.{◌≡◌, ℕ, ◌+◌, ◌<◌, Bool, cond, ◌&&◌, List, [], ◌∷◌, length, Some, None, Option, ◌==◌}
use Rattle.std.specs.Str.{bytes_eq}
use Rattle.hash.specs.Digests.{digest_len}
use Rattle.merkle.specs.Climb.{slot}
use Rattle.merkle.specs.Binding.{Two, found}
use Rattle.merkle.specs.Layout.{path_of}
use Rattle.collisions.specs.Finding.{found_len, put_one, put_other, InHand}
use Rattle.codes.specs.Code.{Table}
use Rattle.header.specs.Fields.{Fields}
use Rattle.header.specs.Lines.{axis_by}
use Rattle.header.specs.Sizes.{width, depth, data_len, square_len, path_len, string_len, line_number}
use Rattle.extension.specs.Square.{extension}
use Rattle.commitment.specs.Values.{value_tree}
use Rattle.commitment.specs.Roots.{roots_of, data_root_of}
use Rattle.evidence.specs.Evidence.{evidence_rungs}
use Rattle.evidence.specs.Paths.{cell_share, evidence_path}
use Rattle.wire.specs.Values.{Claim, Witness}
use Rattle.fraudproof.specs.Proof.{Case}
use Rattle.square.specs.Extend.{Extended}
use Rattle.fraud.specs.Accepted.{claim_rungs, witness_row, witness_col, Condemns}

-- the extension of the data d
abbrev pub square_of : Table → Fields → List ℕ → List ℕ
square_of T h d = extension T h.k h.s d

-- the header has the data root of a square
abbrev pub is_header_of : (List ℕ → List ℕ) → Fields → List ℕ → Bool
is_header_of f h sq = bytes_eq (data_root_of f h (roots_of f h sq)) h.data_root

-- data of d bytes, strings of a and b and a scratch square of n have the block's lengths
abbrev pub extract_fits : Fields → ℕ → ℕ → ℕ → ℕ → Bool
extract_fits h d a b n = d == data_len h && (a == string_len && (b == string_len && n == square_len h))

-- ---- at a witness

-- the square's own share at the witness's cell, and its own path there along the witness's axis
abbrev pub own_share : Fields → List ℕ → Claim → Witness → List ℕ
own_share h sq c w = cell_share h sq (witness_row c w) (witness_col c w)

abbrev pub own_path : (List ℕ → List ℕ) → Fields → List ℕ → Claim → Witness → List ℕ
own_path f h sq c w = evidence_path f h sq (roots_of f h sq) (axis_by w.axis) (witness_row c w) (witness_col c w)

-- the witness has the square's share
abbrev pub agrees : Fields → List ℕ → Claim → Witness → Bool
agrees h sq c w = bytes_eq w.share (own_share h sq c w)

-- a witness whose place is on the line, with a share and a path of the block's lengths
pub record Sound (h : Fields) (w : Witness) : Type 0 where
  pub place : w.place < width h
  pub share : length w.share ≡ h.s
  pub path : length w.path ≡ path_len h

-- the first witness that fails a test
unfoldable pub first_against : (Witness → Bool) → List Witness → Option Witness
first_against test [] = None
first_against test (w ∷ ws) = cond (test w) (first_against test ws) (Some w)

-- the first collision of the two climbs from the witness's cell, the witness's and the square's
abbrev pub at_witness : (List ℕ → List ℕ) → Fields → List ℕ → Claim → Witness → Option Two
at_witness f h sq c w =
    found f (evidence_rungs h (axis_by w.axis) (witness_row c w) (witness_col c w) w.path)
    (evidence_rungs h (axis_by w.axis) (witness_row c w) (witness_col c w) (own_path f h sq c w)) w.share (own_share h sq c w)

-- ---- at the claimed root

-- the path of line n in the data tree over some roots
unfoldable pub data_path : (List ℕ → List ℕ) → Fields → List ℕ → ℕ → List ℕ
data_path f h roots n = path_of (depth h + 1) n (value_tree f (depth h + 1) digest_len roots)

-- the claim that the square would make of the same line: its own root there, and the root's path
abbrev pub own_claim : (List ℕ → List ℕ) → Fields → List ℕ → Claim → Claim
own_claim f h sq c = record {
  axis = c.axis;
  index = c.index;
  root = slot (line_number h (axis_by c.axis) c.index) (roots_of f h sq);
  path = data_path f h (roots_of f h sq) (line_number h (axis_by c.axis) c.index);
}

-- the first collision of the two climbs in the data tree, the claimed root's and that of the square's own
abbrev pub at_claim : (List ℕ → List ℕ) → Fields → List ℕ → Claim → Option Two
at_claim f h sq c = found f (claim_rungs h c) (claim_rungs h (own_claim f h sq c)) c.root (own_claim f h sq c).root

-- ---- which of the two

abbrev pub at_first : (Witness → Option Two) → Option Two → Option Witness → Option Two
at_first at other None = other
at_first at other (Some w) = at w

-- at the first witness whose share is not the square's, or, where there is none, at the claimed root
abbrev pub extracted : (List ℕ → List ℕ) → Fields → List ℕ → Case → Option Two
extracted f h sq p = at_first (at_witness f h sq p.claim) (at_claim f h sq p.claim) (first_against (agrees h sq p.claim) p.witnesses)

-- A comparison over string buffers x and y: it answers r and leaves x' and y'. It finds what is extracted; what it finds is in hand; and
-- it finds something if the header is that of an extension and the proof condemns it.
pub record Compares (f : List ℕ → List ℕ) (h : Fields) (sq : List ℕ) (p : Case) (r : Option ℕ) (x y x' y' : List ℕ) : Type 0 where
  pub answer : r ≡ found_len (extracted f h sq p)
  pub one : x' ≡ put_one (extracted f h sq p) x
  pub other : y' ≡ put_other (extracted f h sq p) y
  pub in_hand : (n : ℕ) → r ≡ Some n → InHand f n x' y'
  pub meets : (T : Table) (d : List ℕ) → Extended f T h d sq (roots_of f h sq) → h.data_root ≡ data_root_of f h (roots_of f h sq) → Condemns f T h p
      → (n : ℕ) × (r ≡ Some n)
