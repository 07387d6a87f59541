use Rattle.std.proofs.Common.{◌≡◌, ℕ, ◌+◌, ◌/◌, ◌^◌, ◌<◌, length, get_or}
use Rattle.octets.specs.Shares.{byte_of}
use Rattle.codes.specs.Code.{applied}
use Rattle.codes.specs.Words.{at}
use Rattle.erasure.proofs.combine.combine.Given as goal

-- the sum by the coefficients' bits that are done
abbrev pub invariant-loop-bit : goal.invariant-loop-bit
invariant-loop-bit l =
    (b : ℕ) → b < length l.initial.sum
    → get_or l.sum b 0 ≡ applied (length l.row) (λ j. at l.row j / 2 ^ l.bit) (λ j. byte_of l.size j (l.from + b) l.shares)
