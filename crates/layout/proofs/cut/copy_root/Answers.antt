use Rattle.std.proofs.Common.{◌≡◌, ◌-◌, ◌*◌, ◌^◌, ◌≤◌, sym, ap, ◌∙◌, arith, pow_mono}
use Rattle.std.proofs.lemmas.Bool.{cond-true, le-leb}
use Rattle.merkle.specs.Climb.{slot}
use Rattle.merkle.proofs.Steps.{slot_length}
use Rattle.layout.specs.Answers.{depth_limit, leaf_count}
use Rattle.layout.proofs.Rows.{copied_in, entry_whole}
use Rattle.layout.proofs.cut.copy_root.Goals as goal

pub returns : goal.returns
returns c =
    let d = c.args.depth in
    let tree = c.args.tree.now in
    let count : leaf_count d ≡ 2 ^ d = cond-true _ (2 ^ d) 0 (le-leb d depth_limit c.requires.0) in
    let some : 1 ≤ 2 ^ d = pow_mono {i = 0} {j = d} (omega arith) in
    let at : 2 * c.leaves.result - 2 ≡ 2 * 2 ^ d - 2 = omega arith in
    c.copy_entry.ensures.written
    ∙ copied_in _ 0 tree c.args.out.now (omega arith) (omega arith)
    ∙ entry_whole _ c.args.out.now (slot_length (2 * c.leaves.result - 2) tree (omega arith) ∙ sym c.requires.1.1)
    ∙ ap (λ i. slot i tree) at
