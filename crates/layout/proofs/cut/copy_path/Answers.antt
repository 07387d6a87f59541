use Rattle.std.proofs.Common.{◌+◌, ◌*◌, ◌^◌, ◌<◌, ◌≤◌, length, sym, ap, ◌∙◌, arith}
use native.Mathlib.Nat.{sub-zero}
use Rattle.octets.specs.Splice.{over}
use Rattle.hash.specs.Digests.{digest_len}
use Rattle.merkle.specs.Tree.{flip}
use Rattle.merkle.specs.Climb.{slot}
use Rattle.merkle.specs.Layout.{path_of}
use Rattle.merkle.proofs.Steps.{slot_length}
use Rattle.merkle.proofs.Layouts.{flip_below}
use Rattle.layout.proofs.Rows.{copied_in, halved, path_step, path_end}
use Rattle.layout.proofs.cut.copy_path.Goals as goal

pub loop-h-init : goal.loop-h-init
loop-h-init c =
    let d = c.args.depth in
    (ap (λ k. path_of k c.args.place c.args.tree.now) (sub-zero d), c.requires.0 ∙ ap (λ k. 2 ^ k) (sym (sub-zero d)), omega arith, omega arith, omega arith)

pub loop-h-preserved : goal.loop-h-preserved
loop-h-preserved c =
    let inv = c.loop-h.invariant in
    let h = c.loop-h.h in
    let p = c.loop-h.place in
    let s = c.loop-h.start in
    let w = c.loop-h.width in
    let tree = c.args.tree.now in
    let half = halved c.args.depth h w c.loop-h-test.true inv.1 in
    let low : flip p < w = flip_below p _ w inv.2 half.0 in
    let within : digest_len * (s + flip p) + digest_len ≤ length tree = omega arith in (
      path_step c.args.depth h p s w tree c.loop-h.out _ _ c.loop-h-test.true inv.1 (omega arith) (slot_length (s + flip p) tree within)
          (c.copy_entry.ensures.written ∙ copied_in _ h tree c.loop-h.out (omega arith) (omega arith) ∙ ap (λ q. over (digest_len * h) (slot (s + q) tree) c.loop-h.out) c.sibling.ensures) inv.0,
      half.1,
      omega arith,
      omega arith,
      omega arith,
    )

pub returns : goal.returns
returns c =
    path_end c.args.depth c.loop-h.h c.loop-h.place c.loop-h.start c.args.tree.now c.loop-h.out _ c.loop-h-test.false (omega arith) c.loop-h.invariant.0
