use Rattle.std.proofs.Common.{◌*◌, ◌≤◌, sym, arith}
use Rattle.std.proofs.lemmas.Nat.{mul-le}
use Rattle.std.proofs.lemmas.Bool.Decides.{nat_tests}
use Rattle.erasure.specs.Calls.{complete_fits}
use Rattle.erasure.proofs.Bounds.{width_most}
use Rattle.erasure.proofs.complete.complete_fits.Goals as goal

pub overflow_mul-result : goal.overflow_mul-result
overflow_mul-result c = let w = width_most c.args.k (sym c.if-not-ok_width.ensures) in record { fits = omega arith }

pub overflow_mul-result-then-s-le512-2 : goal.overflow_mul-result-then-s-le512-2
overflow_mul-result-then-s-le512-2 c =
    let w = width_most c.args.k (sym c.if-not-ok_width.ensures) in
    let b : c.args.w * c.args.s ≤ 64 * 512 = mul-le c.args.w c.args.s 64 512 (omega arith) (omega arith) in
    let l : 2 * c.args.k * (c.args.w * c.args.s) ≤ 64 * 32768 = mul-le (2 * c.args.k) (c.args.w * c.args.s) 64 32768 (omega arith) (omega arith) in
    record { fits = omega arith }

pub returns-then-s-le512 : goal.returns-then-s-le512
unfolding complete_fits
returns-then-s-le512 c = grind (arith, nat_tests)

pub returns-else-s-le512 : goal.returns-else-s-le512
unfolding complete_fits
returns-else-s-le512 c = grind (arith, nat_tests)

pub returns-then-not-ok_width : goal.returns-then-not-ok_width
unfolding complete_fits
returns-then-not-ok_width c = rw (sym c.if-not-ok_width.ensures)
