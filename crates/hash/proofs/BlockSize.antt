-- The size of a block.
use Rattle.std.proofs.Common.{◌≡◌, ℕ, ◌≤◌, true, arith}
use Rattle.std.proofs.lemmas.Bool.Decides.{nat_tests}
use Rattle.hash.specs.Blocks.{ok_block}

pub block_fits : (n : ℕ) → ok_block n ≡ true → (1 ≤ n) × (n ≤ 136)
block_fits n h = (grind (arith, nat_tests), grind (arith, nat_tests))
