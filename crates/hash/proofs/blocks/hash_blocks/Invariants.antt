use Rattle.std.proofs.Common.{◌≡◌}
use Rattle.hash.proofs.blocks.hash_blocks.Given as goal

abbrev pub invariant-loop-n : goal.invariant-loop-n
invariant-loop-n g l = g.C.Chain.view l.value ≡ g.C.Chain.after l.parts l.n
