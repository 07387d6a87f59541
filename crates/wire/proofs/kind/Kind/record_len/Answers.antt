use Rattle.std.proofs.Common.{arith}
use Rattle.header.specs.Fields.{fields_of}
use Rattle.wire.specs.Kinds.{code_of}
use Rattle.wire.proofs.Lengths.{body_short}
use Rattle.wire.proofs.kind.Kind.record_len.Goals as goal

pub overflow_add-result : goal.overflow_add-result
overflow_add-result c =
    let b = body_short (fields_of c.args.h.now) (record { wide = c.args.h.now.width; sized = c.args.h.now.size }) (code_of c.args.self) in
    omega (arith, c.body_len.ensures)
