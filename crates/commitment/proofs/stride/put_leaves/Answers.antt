use Rattle.std.proofs.Common.{ℕ, ◌+◌, ◌*◌, ap, ◌∙◌, arith}
use Rattle.octets.specs.Splice.{over}
use Rattle.hash.specs.Digests.{digest_len}
use Rattle.merkle.specs.Climb.{Node}
use Rattle.layout.proofs.Entries.{entries_more}
use Rattle.commitment.specs.Values.{value_leaf}
use Rattle.commitment.proofs.Folds.{put_in}
use Rattle.commitment.proofs.stride.put_leaves.Goals as goal

pub loop-j-preserved : goal.loop-j-preserved
loop-j-preserved g c =
    let s = c.args.stride in
    let j = c.loop-j.j in
    let row = c.loop-j.entries in
    let leaf : ℕ → Node = λ i. value_leaf g.H.Hash.meaning c.args.size c.args.values.now (s.first + i * s.step) in
    entries_more leaf j row _
    (c.put_entry.ensures.written ∙ put_in j _ row (omega (arith, c.requires.room, c.loop-j-test.true)) ∙ ap (λ z. over (digest_len * j) z row) c.leaf.ensures)
    (g.met.H.Hash.sized _) (omega (arith, c.requires.room, c.loop-j-test.true)) c.loop-j.invariant
