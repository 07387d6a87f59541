-- Records by their values: the parts of the input are lists of bytes.
use Rattle.std.specs.Prelude.{ℕ, List}
use Rattle.header.specs.Fields.{Fields}

-- a claim: the line with this index along an axis has this root, which is under the data root by this path
pub record Claim : Type 0 where
  pub axis : ℕ
  pub index : ℕ
  pub root : List ℕ
  pub path : List ℕ

-- a witness: evidence, by its own axis, for the cell at this place of the claimed line
pub record Witness : Type 0 where
  pub place : ℕ
  pub axis : ℕ
  pub share : List ℕ
  pub path : List ℕ

pub data Rec : Type 0 where
  header : Fields → Rec
  roots : List ℕ → Rec
  group : ℕ → ℕ → Rec
  share : ℕ → List ℕ → List ℕ → Rec
  end : Rec
  claim : Claim → Rec
  witness : Witness → Rec
