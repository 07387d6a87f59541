use Rattle.std.proofs.Common.{◌≡◌, ℕ, ◌+◌, ◌/◌, ◌%◌, ◌^◌, ◌<◌, length, get_or}
use lib.Bits.{bit_xor}
use Rattle.octets.specs.Shares.{byte_of}
use Rattle.codes.specs.Code.{applied}
use Rattle.codes.specs.Words.{at}
use Rattle.erasure.proofs.combine.add_selected.Given as goal

abbrev pub invariant-loop-j : goal.invariant-loop-j
invariant-loop-j l =
    (b : ℕ) → b < length l.initial.sum
    → get_or l.sum b 0 ≡ bit_xor (get_or l.initial.sum b 0) (applied l.j (λ j. at l.row j / 2 ^ l.bit % 2) (λ j. byte_of l.size j (l.from + b) l.shares))
