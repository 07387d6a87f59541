-- A digest has 32 bytes, each below 256. The laws stand here, since of its own crate an impl may name what stands in the specs, and not its proofs.
use Rattle.std.specs.Prelude.{◌≡◌, ℕ, zero, suc, ◌<◌, List, [], ◌∷◌, length, slice_index, refl}
use Rattle.std.proofs.Common.{arith}
use Rattle.octets.proofs.Joins.{joined_below}
use Rattle.sha3.specs.Sponge.{sha3, lane_bytes, final_state}

pub sha3_sized : (m : List ℕ) → length (sha3 m) ≡ 32
unfolding sha3
sha3_sized m = refl

lane_below : (x i : ℕ) → slice_index (lane_bytes x) i < 256
lane_below x zero = omega arith
lane_below x (suc zero) = omega arith
lane_below x (suc (suc zero)) = omega arith
lane_below x (suc (suc (suc zero))) = omega arith
lane_below x (suc (suc (suc (suc zero)))) = omega arith
lane_below x (suc (suc (suc (suc (suc zero))))) = omega arith
lane_below x (suc (suc (suc (suc (suc (suc zero)))))) = omega arith
lane_below x (suc (suc (suc (suc (suc (suc (suc zero))))))) = omega arith
lane_below x (suc (suc (suc (suc (suc (suc (suc (suc i)))))))) = omega arith

pub sha3_bytes : (m : List ℕ) (i : ℕ) → slice_index (sha3 m) i < 256
unfolding sha3
sha3_bytes m i =
    joined_below lane_bytes 256 (omega arith) lane_below
    (slice_index (final_state m) 0 ∷ slice_index (final_state m) 1 ∷ slice_index (final_state m) 2 ∷ slice_index (final_state m) 3 ∷ []) i
