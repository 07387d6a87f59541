use Rattle.std.proofs.Common.{sym, arith}
use Rattle.erasure.proofs.Bounds.{width_most, size_most}
use Rattle.header.proofs.make.make_header.Goals as goal

pub overflow_cast-result : goal.overflow_cast-result
overflow_cast-result c = omega (arith, width_most c.args.k (sym c.if-not-ok_width.ensures))

pub overflow_cast-result-2 : goal.overflow_cast-result-2
overflow_cast-result-2 c = omega (arith, size_most c.args.s (sym c.if-not-ok_size.ensures))
