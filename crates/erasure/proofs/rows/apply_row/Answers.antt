use Rattle.std.proofs.Common.{cond, length, sym, ap, ◌∙◌, arith}
use Rattle.erasure.proofs.Parts.{row_parts, row_sum_is}
use Rattle.erasure.specs.Rows.{row_sum}
use Rattle.erasure.proofs.rows.apply_row.Goals as goal

pub combine-requires : goal.combine-requires
combine-requires c =
    let f = row_parts _ _ _ _ _ (sym c.if-not-row_fits.ensures) in (f.long, omega arith)

pub returns : goal.returns
returns c =
    let e = c.if-not-row_fits.ensures in
    let row = c.args.row.now in
    let old = c.args.sum.now in
    record {
      answer = e;
      written = row_sum_is row c.args.size c.args.from c.args.shares.now old c.combine.new.sum c.combine.auto.sum c.combine.ensures
          ∙ ap (λ t. cond t (row_sum row c.args.size c.args.from (length old) c.args.shares.now) old) e;
    }
