use Rattle.std.proofs.Common.{◌∙◌, arith}
use Rattle.erasure.proofs.Parts.{row_by_length, row_empty, row_past}
use Rattle.erasure.proofs.combine.row_fits.Goals as goal

pub returns-then-k-eq0 : goal.returns-then-k-eq0
returns-then-k-eq0 c =
    elim c.then-k-eq0.branch [
      | goal.then-k-eq0-via-then-k-eq0 w ↦ row_empty _ c.args.len c.args.size c.args.from c.args.n w.if-k-eq0.true
      | goal.then-k-eq0-via-else-k-eq0+then-from-size w ↦ row_past c.args.k c.args.len c.args.size c.args.from c.args.n (omega arith)
      | goal.then-k-eq0-via-else-k-eq0+else-from-size+then-n-size w ↦ row_past c.args.k c.args.len c.args.size c.args.from c.args.n (omega arith)
    ]

pub returns : goal.returns
returns c = c.holds.ensures ∙ row_by_length c.args.k c.args.len c.args.size c.args.from c.args.n (omega arith) (omega arith)
