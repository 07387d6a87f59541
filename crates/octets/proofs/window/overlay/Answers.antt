use Rattle.std.proofs.Common.{◌≡◌, ◌+◌, ◌-◌, ◌≤◌, ◌⊎◌, length, get_or, take, drop, ap, ◌∙◌, inl, inr, arith}
use borrow.Rule.Slice.PartMut.{put_mid}
use Rattle.std.proofs.lemmas.Bool.{cases_lt}
use Rattle.octets.proofs.Windows.{overlaid_at_lem}
use Rattle.octets.proofs.window.overlay.Goals as goal

pub returns : goal.returns
returns c j h =
    let block = c.args.block.now in
    let part = c.args.part.now in
    let at = c.args.at in
    let from = c.args.from in
    let n = c.min-n.result in
    let ends : (length block ≤ at + n) ⊎ (length part ≤ from + n) =
    elim (cases_lt (length block - at) (length part - from)) [ inl l ↦ inl (omega arith) | inr l ↦ inr (omega arith) ] in
    let whole : from + n - from ≡ n = omega arith in
    ap (λ ys. get_or (put_mid at (at + n - at) block ys) j 0) (c.copy_from_slice.ensures.after ∙ ap (λ m. take m (drop from part)) whole)
    ∙ overlaid_at_lem block part at from n (at + n - at) j (omega arith) (omega arith) ends (omega arith) h
