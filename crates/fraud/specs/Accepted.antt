-- Which proofs of bad encoding are accepted: those that show a committed line that is no codeword.
use Rattle.std.specs.Prelude.{◌≡◌, ℕ, ◌+◌, Bool, true, List, [], ◌∷◌, map, length, Ok, ◌≢◌}
use Rattle.std.specs.List.{flat_map}
use Rattle.std.specs.Str.{bytes_eq}
use Rattle.merkle.specs.Climb.{Node, Rung, plain_rule, from_leaf, climb}
use Rattle.codes.specs.Code.{Table}
use Rattle.codes.specs.Words.{Through}
use Rattle.erasure.specs.Places.{rising_below}
use Rattle.header.specs.Fields.{Fields}
use Rattle.header.specs.Lines.{axis_by, row_at, col_at}
use Rattle.header.specs.Sizes.{width, depth, line_number}
use Rattle.commitment.specs.Values.{value_root}
use Rattle.evidence.specs.Evidence.{verifies}
use Rattle.wire.specs.Values.{Claim, Witness}
use Rattle.fraudproof.specs.Proof.{Case}
use Rattle.fraudproof.specs.Form.{case_outcome}

-- ---- the claim

-- the claimed root is a leaf's value of the data tree, at the number of its line, and climbs by the claim's path
abbrev pub claim_rungs : Fields → Claim → List Rung
claim_rungs h c = from_leaf (depth h + 1) (line_number h (axis_by c.axis) c.index) c.path

abbrev pub claim_end : (List ℕ → List ℕ) → Fields → Claim → Node
claim_end f h c = climb plain_rule f (claim_rungs h c) c.root

-- the root is committed: the climb ends at the data root
abbrev pub is_committed : (List ℕ → List ℕ) → Fields → Claim → Bool
is_committed f h c = bytes_eq (claim_end f h c) h.data_root

-- ---- the witnesses

-- the cell of a witness: that at its own place of the line that the claim names
abbrev pub witness_row : Claim → Witness → ℕ
witness_row c w = row_at (axis_by c.axis) c.index w.place

abbrev pub witness_col : Claim → Witness → ℕ
witness_col c w = col_at (axis_by c.axis) c.index w.place

-- it verifies there, by its own axis
abbrev pub vouches : (List ℕ → List ℕ) → Fields → Claim → Witness → Bool
vouches f h c w = verifies f h (witness_row c w) (witness_col c w) (axis_by w.axis) w.share w.path

-- the places of witnesses, and their shares one after the other
abbrev pub places_of : List Witness → List ℕ
places_of ws = map (λ w. w.place) ws

abbrev pub shares_of : List Witness → List ℕ
shares_of ws = flat_map (λ w. w.share) ws

-- something holds of every witness
unfoldable pub Every : (Witness → Type 0) → List Witness → Type 0
Every P [] = Unit {0}
Every P (w ∷ ws) = P w × Every P ws

-- ---- acceptance

-- A proof condemns the block of header h, under the hash f and the code with the table T.
pub record Condemns (f : List ℕ → List ℕ) (T : Table) (h : Fields) (p : Case) : Type 0 where
  -- the claimed root is committed at that axis and index
  pub committed : is_committed f h p.claim ≡ true
  -- there are k witnesses, at strictly rising places
  pub many : length p.witnesses ≡ h.k
  pub rising : rising_below (width h) (places_of p.witnesses) ≡ true
  -- each verifies at the cell that the claim's axis and index and its own place name
  pub verified : Every (λ w. vouches f h p.claim w ≡ true) p.witnesses
  -- and the codeword through them, of which there is one by the second law of codes, has another root than the claimed one
  pub other : (ws : List ℕ) → Through T h.k h.s (places_of p.witnesses) (shares_of p.witnesses) ws
      → value_root f (depth h) h.s ws ≢ p.claim.root

-- The bytes of a proof are accepted for a header, under a hash and a code of these kinds: the header has the kinds, the bytes are a proof
-- in its block, and that proof condemns the block.
pub record Accepted (f : List ℕ → List ℕ) (T : Table) (hash_kind code_kind : ℕ) (h : Fields) (bytes : List ℕ) : Type 0 where
  pub hash : h.hash_kind ≡ hash_kind
  pub code : h.code_kind ≡ code_kind
  pub proof : Case
  pub read : case_outcome h bytes ≡ Ok proof
  pub condemns : Condemns f T h proof
