use Rattle.std.proofs.Common.{◌≡◌, ℕ, ◌+◌, ◌*◌, List, refl, ap, ◌∙◌, ap₂, arith}
use Rattle.octets.specs.Splice.{over}
use Rattle.hash.specs.Digests.{digest_len}
use Rattle.merkle.specs.Climb.{Node, plain_rule, join_of, slot}
use Rattle.layout.proofs.Entries.{entries_more}
use Rattle.layout.proofs.Rows.{joined_in}
use Rattle.commitment.proofs.Folds.{entry_after}
use Rattle.commitment.proofs.bands.join_rows.Goals as goal

pub loop-j-init : goal.loop-j-init
loop-j-init g c = (λ m l. absurd (omega arith), λ m l. refl)

pub loop-j-preserved : goal.loop-j-preserved
loop-j-preserved g c =
    let f = g.H.Hash.meaning in
    let J = join_of plain_rule f in
    let j = c.loop-j.j in
    let w = c.args.width in
    let old : List ℕ = c.args.work.now in
    let work : List ℕ = c.loop-j.work in
    let made : ℕ → Node = λ m. J (slot m old) (slot (w + m) old) in
    let sized = g.met.H.Hash.sized in
    let e : c.join_entries.new.row ≡ over (digest_len * j) (made j) work =
    c.join_entries.ensures.written ∙ joined_in f j (w + j) j work (omega arith) (omega arith) (omega arith)
    ∙ ap (λ z. over (digest_len * j) z work) (ap₂ J (c.loop-j.invariant.1 j (omega arith)) (c.loop-j.invariant.1 (w + j) (omega arith))) in (
      entries_more made j work _ e (sized _) (omega arith) c.loop-j.invariant.0,
      λ m l. ap (slot m) e ∙ entry_after j (made j) work (sized _) (omega arith) m (omega arith) ∙ c.loop-j.invariant.1 m (omega arith),
    )

pub returns : goal.returns
returns g c = λ j l. c.loop-j.invariant.0 j (omega arith)
