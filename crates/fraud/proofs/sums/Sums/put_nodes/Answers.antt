use Rattle.std.proofs.Common.{◌≡◌, ℕ, ◌+◌, ◌*◌, ◌<◌, ◌≤◌, length, drop, sym, ap, ◌∙◌, subst, arith, add-mul}
use Rattle.octets.specs.Shares.{share}
use Rattle.octets.specs.Splice.{over}
use Rattle.hash.specs.Digests.{digest_len}
use Rattle.merkle.specs.Climb.{Node, plain_rule, leaf_of, slot}
use Rattle.erasure.specs.Rows.{row_sum}
use Rattle.layout.proofs.Entries.{entries_more}
use Rattle.commitment.proofs.Folds.{put_in}
use Rattle.layout.specs.Answers.{put_at}
use Rattle.fraud.proofs.Words.{row_turn, row_few, row_end}
use Rattle.header.specs.Fields.{fields_of}
use Rattle.fraudproof.specs.Proof.{witness_len}
use Rattle.fraud.proofs.sums.Sums.put_nodes.Goals as goal

pub loop-i-preserved : goal.loop-i-preserved
loop-i-preserved g c =
    let s = c.args.self.now in
    let h = s.shown.header.now in
    let k = h.k in
    let size-is = witness_len (fields_of h) in
    let ws = s.shown.records.now in
    let rows = s.rows.now in
    let steps = c.in-Some.ensures.steps in
    let size : c.next.new.self.iter.size ≡ c.loop-i.i-iterator.iter.size = steps.0.0 in
    let i = c.loop-i.i-iterator.count in
    let t = row_turn k i rows c.loop-i.i-iterator.iter.rest.now c.loop-i.invariant.1.1.1 c.in-Some.row.now c.next.new.self.iter.rest.now
    c.loop-i.invariant.1.1.0 steps.0.1.0 (steps.0.1.1 ∙ c.loop-i.invariant.1.0) in
    let few = row_few k i rows c.loop-i.i-iterator.iter.rest.now c.loop-i.invariant.1.1.1 (2 * k) s.few.0 s.table t.more in
    let next : c.next.new.self.count ≡ i + 1 = steps.2 in
    let at : c.in-Some.i ≡ i = steps.1 in
    let leaf : ℕ → Node = λ j. leaf_of plain_rule g.H.Hash.meaning (row_sum (share k j rows) size-is 9 h.s ws) in
    let made : c.node.result ≡ leaf i = c.node.ensures ∙ ap (λ row. leaf_of plain_rule g.H.Hash.meaning (row_sum row size-is 9 h.s ws)) t.here in
    let here : c.put_entry.new.row ≡ over (digest_len * i) (leaf i) c.loop-i.entries =
    c.put_entry.ensures.written ∙ ap (λ n. put_at n c.node.result c.loop-i.entries) at
    ∙ put_in i c.node.result c.loop-i.entries (omega (arith, few, c.loop-i.auto.entries, c.requires.1)) ∙ ap (λ z. over (digest_len * i) z c.loop-i.entries) made in
    let size-next : i * k + k ≡ (i + 1) * k = omega (arith, add-mul i 1 k) in
    subst (λ n. ((j : ℕ) → j < n → slot j c.put_entry.new.row ≡ leaf j) × ((c.next.new.self.iter.size ≡ k) × ((n * k ≤ length rows) × (c.next.new.self.iter.rest.now ≡ drop (n * k) rows))))
    (sym next) (
      entries_more leaf i c.loop-i.entries c.put_entry.new.row here (g.met.H.Hash.sized _) (omega (arith, few, c.loop-i.auto.entries, c.requires.1)) c.loop-i.invariant.0,
      (size ∙ c.loop-i.invariant.1.0, (omega (arith, size-next, t.more), t.others)),
    )

pub returns : goal.returns
returns g c =
    let s = c.args.self.now in
    let h = s.shown.header.now in
    let inv = c.loop-i.invariant in
    let short : length c.loop-i.i-iterator.iter.rest.now < h.k = omega (arith, c.in-None.ensures.steps.0.1.0, inv.1.0) in
    let all = row_end h.k c.loop-i.i-iterator.count s.rows.now c.loop-i.i-iterator.iter.rest.now inv.1.1.1 (2 * h.k) s.table inv.1.1.0 short in
    λ j l. inv.0 j (omega (arith, all))
