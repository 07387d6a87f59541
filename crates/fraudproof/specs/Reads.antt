-- Witness records that were read.
use Rattle.std.specs.Prelude.{◌≡◌, ℕ, ◌*◌, ◌<◌, ◌≤◌, List, map, length}
use Rattle.std.specs.List.{range_with_len}
use Rattle.header.specs.Fields.{Fields}
use Rattle.header.specs.Sizes.{width}
use Rattle.wire.specs.Values.{Witness}
use Rattle.fraudproof.specs.Proof.{witness_len, witness_at}

-- the k witnesses that records lying one after the other say
abbrev pub records_of : Fields → List ℕ → Unit {0} → List Witness
records_of h ws t = map (witness_at h ws) (range_with_len 0 h.k)

-- k records and nothing behind them, with values in range
pub record WitnessRecords (h : Fields) (ws : List ℕ) : Type 0 where
  pub long : length ws ≡ h.k * witness_len h
  pub places : (i : ℕ) → i < h.k → (witness_at h ws i).place < width h
  pub axes : (i : ℕ) → i < h.k → (witness_at h ws i).axis ≤ 1
