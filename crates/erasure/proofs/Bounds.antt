-- What the limits allow.
use Rattle.std.proofs.Common.{◌≡◌, ℕ, ◌<◌, ◌≤◌, true, arith}
use Rattle.std.proofs.lemmas.Bool.Decides.{nat_tests}
use Rattle.erasure.specs.Limits.{ok_width, ok_size}

pub width_most : (k : ℕ) → ok_width k ≡ true → k ≤ 32
unfolding ok_width
width_most k h = grind (arith, nat_tests)

pub width_some : (k : ℕ) → ok_width k ≡ true → 0 < k
unfolding ok_width
width_some k h = grind (arith, nat_tests)

pub size_most : (s : ℕ) → ok_size s ≡ true → s ≤ 512
unfolding ok_size
size_most s h = grind (arith, nat_tests)

pub size_some : (s : ℕ) → ok_size s ≡ true → 0 < s
unfolding ok_size
size_some s h = grind (arith, nat_tests)
