use Rattle.std.proofs.Common.{◌*◌, sym, arith}
use Rattle.std.proofs.lemmas.Bool.{eq-eqb, ne_eqb}
use Rattle.extension.specs.Square.{fill_fits}
use Rattle.extension.proofs.Fills.{small}
use Rattle.extension.proofs.lengths.fill_fits.Goals as goal

pub returns-then-not-ok_width : goal.returns-then-not-ok_width
unfolding fill_fits
returns-then-not-ok_width c = rw (sym c.if-not-ok_width.ensures)

pub returns-then-not-ok_size : goal.returns-then-not-ok_size
unfolding fill_fits
returns-then-not-ok_size c = rw (sym c.if-not-ok_width.ensures, sym c.if-not-ok_size.ensures)

pub overflow_mul-k : goal.overflow_mul-k
overflow_mul-k c =
    let b = small c.args.k c.args.s (sym c.if-not-ok_width.ensures) (sym c.if-not-ok_size.ensures) in
    record { fits = omega arith }

pub overflow_mul-k-2 : goal.overflow_mul-k-2
overflow_mul-k-2 c =
    let b = small c.args.k c.args.s (sym c.if-not-ok_width.ensures) (sym c.if-not-ok_size.ensures) in
    record { fits = omega arith }

pub overflow_mul-result : goal.overflow_mul-result
overflow_mul-result c =
    let b = small c.args.k c.args.s (sym c.if-not-ok_width.ensures) (sym c.if-not-ok_size.ensures) in
    record { fits = omega arith }

pub overflow_mul-result-then-n-k : goal.overflow_mul-result-then-n-k
overflow_mul-result-then-n-k c =
    let b = small c.args.k c.args.s (sym c.if-not-ok_width.ensures) (sym c.if-not-ok_size.ensures) in
    record { fits = omega arith }

pub overflow_mul-result-then-n-k-2 : goal.overflow_mul-result-then-n-k-2
overflow_mul-result-then-n-k-2 c =
    let b = small c.args.k c.args.s (sym c.if-not-ok_width.ensures) (sym c.if-not-ok_size.ensures) in
    record { fits = omega arith }

pub overflow_mul-result-then-n-k-3 : goal.overflow_mul-result-then-n-k-3
overflow_mul-result-then-n-k-3 c =
    let b = small c.args.k c.args.s (sym c.if-not-ok_width.ensures) (sym c.if-not-ok_size.ensures) in
    record { fits = omega arith }

pub returns-then-n-k : goal.returns-then-n-k
unfolding fill_fits
returns-then-n-k c =
    rw (sym c.if-not-ok_width.ensures, sym c.if-not-ok_size.ensures, eq-eqb c.args.n (c.args.k * c.args.k * c.args.s) c.if-n-k.true)

pub returns-else-n-k : goal.returns-else-n-k
unfolding fill_fits
returns-else-n-k c =
    rw (sym c.if-not-ok_width.ensures, sym c.if-not-ok_size.ensures, ne_eqb c.args.n (c.args.k * c.args.k * c.args.s) c.if-n-k.false)
