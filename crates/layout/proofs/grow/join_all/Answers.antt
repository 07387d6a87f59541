use Rattle.std.proofs.Common.{◌+◌, ◌*◌, refl, ◌∙◌, arith}
use Rattle.merkle.specs.Climb.{plain_rule, join_of}
use Rattle.layout.proofs.Rows.{joined_in, grown_none, grown_before, grown_more, grown_all}
use Rattle.layout.proofs.grow.join_all.Goals as goal

pub loop-i-init : goal.loop-i-init
loop-i-init g c = (λ j l. refl, grown_none (join_of plain_rule g.H.Hash.meaning) c.args.n c.args.tree.now)

pub loop-i-preserved : goal.loop-i-preserved
loop-i-preserved g c =
    let f = g.H.Hash.meaning in
    let J = join_of plain_rule f in
    let n = c.args.n in
    let i = c.loop-i.i in
    let is = c.join_entries.ensures.written ∙ joined_in f (2 * i) (2 * i + 1) (n + i) c.loop-i.tree (omega arith) (omega arith) (omega arith) in (
      λ j l. grown_before J n i c.loop-i.tree _ (omega arith) (omega arith) (g.met.H.Hash.sized _) is j (omega arith) ∙ c.loop-i.invariant.0 j l,
      grown_more J n i c.loop-i.tree _ (omega arith) (omega arith) (g.met.H.Hash.sized _) is c.loop-i.invariant.1,
    )

pub returns : goal.returns
returns g c =
    grown_all (join_of plain_rule g.H.Hash.meaning) c.args.depth c.args.n (c.args.n + c.loop-i.i) c.args.tree.now c.loop-i.tree
    c.requires.0 (omega arith) (omega arith) c.loop-i.invariant.0 c.loop-i.invariant.1
