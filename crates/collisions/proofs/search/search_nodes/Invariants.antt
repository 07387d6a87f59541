use Rattle.std.proofs.Common.{◌≡◌, length}
use Rattle.merkle.specs.Climb.{plain_rule, climb, past}
use Rattle.merkle.specs.Binding.{found}
use Rattle.merkle.proofs.Chunks.{past_from}
use Rattle.collisions.proofs.search.search_nodes.Given as goal

abbrev pub invariant-loop-sibling_a : goal.invariant-loop-sibling_a
invariant-loop-sibling_a g l =
    (found g.H.Hash.meaning (past_from (length l.yielded) l.place l.path_a) (past_from (length l.yielded) l.place l.path_b) l.a l.b
    ≡ found g.H.Hash.meaning (past l.initial.place l.path_a) (past l.initial.place l.path_b) l.initial.a l.initial.b)
    × (climb plain_rule g.H.Hash.meaning (past_from (length l.yielded) l.place l.path_a) l.a ≡ climb plain_rule g.H.Hash.meaning (past l.initial.place l.path_a) l.initial.a)
    × (climb plain_rule g.H.Hash.meaning (past_from (length l.yielded) l.place l.path_b) l.b ≡ climb plain_rule g.H.Hash.meaning (past l.initial.place l.path_b) l.initial.b)
