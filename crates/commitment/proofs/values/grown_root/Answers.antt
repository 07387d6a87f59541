use Rattle.std.proofs.Common.{ℕ, replicate, refl, arith}
use Rattle.hash.specs.Digests.{digest_len}
use Rattle.merkle.specs.Climb.{Node, slot}
use Rattle.merkle.proofs.Steps.{slot_length}
use Rattle.commitment.proofs.Trees.{grown_over, root_cut}
use Rattle.commitment.proofs.values.grown_root.Goals as goal

pub returns : goal.returns
returns g c =
    let f = g.H.Hash.meaning in
    let d = c.args.depth in
    let tree = c.args.tree.now in
    let leaf : ℕ → Node = λ i. slot i tree in
    root_cut f g.met.H.Hash.sized leaf d c.grow.new.tree (replicate digest_len 0) _ (omega arith) (λ i l. slot_length i tree (omega arith))
    (grown_over f leaf d tree _ (omega arith) (omega arith) (λ j l. refl) c.grow.ensures.written) refl c.tree_root.ensures.written
