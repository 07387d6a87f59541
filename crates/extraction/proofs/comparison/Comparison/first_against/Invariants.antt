use Rattle.std.proofs.Common.{◌≡◌}
use Rattle.fraud.specs.Accepted.{Every}
use Rattle.fraud.specs.Charge.{block_of, case_in}
use Rattle.fraudproof.specs.Left.{witnesses_left}
use Rattle.extraction.specs.Extracted.{Sound, agrees, first_against}
use Rattle.extraction.proofs.comparison.Comparison.first_against.Given as goal

abbrev pub invariant-loop-w : goal.invariant-loop-w
invariant-loop-w l =
    (first_against (agrees (block_of l.self.charge) l.self.square.now (case_in l.self.charge).claim) (case_in l.self.charge).witnesses
    ≡ first_against (agrees (block_of l.self.charge) l.self.square.now (case_in l.self.charge).claim) (witnesses_left l.w-iterator))
    × Every (Sound (block_of l.self.charge)) (witnesses_left l.w-iterator)
