-- A digest has 32 bytes, each below 256. The laws stand here, since of its own crate an impl may name what stands in the specs, and not its proofs.
use Rattle.std.specs.Prelude.{◌≡◌, ℕ, zero, suc, ◌/◌, ◌<◌, List, length, slice_index, refl}
use Rattle.std.proofs.Common.{arith}
use Rattle.std.specs.List.{flat_map}
use Rattle.octets.proofs.Joins.{joined_below}
use Rattle.sha256.specs.Compression.{compressed}
use Rattle.sha256.specs.Message.{sha256, word_bytes, value_after, padded, final_value}

value_sized : (p : List ℕ) (n : ℕ) → length (flat_map word_bytes (value_after p n)) ≡ 32
unfolding value_after compressed
value_sized p zero = refl
value_sized p (suc n) = refl

pub sha256_sized : (m : List ℕ) → length (sha256 m) ≡ 32
unfolding sha256
sha256_sized m = value_sized (padded m) (length (padded m) / 64)

word_below : (x i : ℕ) → slice_index (word_bytes x) i < 256
word_below x zero = omega arith
word_below x (suc zero) = omega arith
word_below x (suc (suc zero)) = omega arith
word_below x (suc (suc (suc zero))) = omega arith
word_below x (suc (suc (suc (suc i)))) = omega arith

pub sha256_bytes : (m : List ℕ) (i : ℕ) → slice_index (sha256 m) i < 256
unfolding sha256
sha256_bytes m i = joined_below word_bytes 256 (omega arith) word_below (final_value m) i
