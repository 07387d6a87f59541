use Rattle.std.proofs.Common.{◌≡◌, ◌+◌, ◌-◌, take, set, sym, ap, ◌∙◌, subst, arith, length-set}
use Rattle.std.proofs.lemmas.List.{take_all}
use Rattle.sha256.specs.Compression.{extended}
use Rattle.sha256.specs.Message.{block_at}
use Rattle.sha256.proofs.Messages.{block_length, chunk_word}
use Rattle.sha256.proofs.Steps.{start, copy_more, extend_more}
use Rattle.sha256.proofs.schedule.schedule.Goals as goal

pub loop-t-preserved : goal.loop-t-preserved
loop-t-preserved c =
    let inv = c.loop-t.invariant in
    let b = c.args.block.now in
    let n = block_length b 0 in
    let t = c.loop-t.t in (
      length-set _ _ _ ∙ inv.0,
      ap (λ x. take (t + 1) (set c.loop-t.w t x)) (c.from_be_bytes.ensures ∙ chunk_word b _ t (omega arith) c.as_chunks.ensures.front (omega arith)) ∙ copy_more (block_at b 0) c.loop-t.w t (omega (arith, inv.0)) (omega arith) inv.1,
    )

pub loop-j-init : goal.loop-j-init
loop-j-init c =
    let inv = c.loop-t.invariant in
    let m = block_at c.args.block.now 0 in
    let l = block_length c.args.block.now 0 in
    let n : c.loop-t.t ≡ 16 = omega arith in
    (inv.0, subst (λ i. take i c.loop-t.w ≡ take i m) n inv.1 ∙ take_all 16 m (omega arith) ∙ start m)

pub loop-j-preserved : goal.loop-j-preserved
loop-j-preserved c =
    let inv = c.loop-j.invariant in
    let m = block_at c.args.block.now 0 in
    let w = c.loop-j.w in
    let j = c.loop-j.j in
    (length-set _ _ _ ∙ inv.0, ap (λ x. take (j + 1) (set w j x)) c.next_word.ensures ∙ extend_more m w j (omega arith) (omega (arith, inv.0)) inv.1)

pub returns : goal.returns
returns c =
    let inv = c.loop-j.invariant in
    let n : c.loop-j.j ≡ 64 = omega arith in
    sym (take_all 64 c.loop-j.w (omega (arith, inv.0))) ∙ subst (λ j. take j c.loop-j.w ≡ extended (j - 16) (block_at c.args.block.now 0)) n inv.1
