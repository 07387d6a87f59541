use Rattle.std.proofs.Common.{◌≡◌, ◌+◌, ◌-◌, ◌*◌, sym, ◌∙◌, arith}
use Rattle.header.proofs.Numbers.{on_row, on_column}
use Rattle.commitment.proofs.line.cells_of.Goals as goal

pub returns-then-n-width : goal.returns-then-n-width
returns-then-n-width c =
    let w = c.args.width in
    let n = c.args.n in
    λ p. (let t : n * w + p * 1 ≡ n * w + p = omega arith in t) ∙ sym (on_row w n p c.if-n-width.true)

pub returns-else-n-width : goal.returns-else-n-width
returns-else-n-width c =
    let w = c.args.width in
    let n = c.args.n in
    λ p. (let t : n - w + p * w ≡ p * w + (n - w) = omega arith in t) ∙ sym (on_column w n p (omega (arith, c.if-n-width.false)))
