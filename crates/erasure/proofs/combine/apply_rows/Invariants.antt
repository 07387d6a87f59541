use Rattle.std.proofs.Common.{◌≡◌, ℕ, ◌<◌}
use Rattle.octets.specs.Shares.{byte_of}
use Rattle.codes.specs.Code.{applied}
use Rattle.erasure.proofs.combine.apply_rows.Given as goal

abbrev pub invariant-loop-i : goal.invariant-loop-i
invariant-loop-i l =
    (i : ℕ) → i < l.i → (b : ℕ) → b < l.s
    → byte_of l.s i b l.out ≡ applied l.k (λ j. byte_of l.k i j l.rows) (λ j. byte_of l.s j b l.shares)
