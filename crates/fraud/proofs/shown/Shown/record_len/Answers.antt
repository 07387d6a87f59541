use Rattle.std.proofs.Common.{◌+◌, ◌≤◌, ap, arith, rules}
use Rattle.header.specs.Fields.{fields_of}
use Rattle.fraudproof.proofs.Records.{body_most}
use Rattle.fraud.proofs.shown.Shown.record_len.Goals as goal

pub overflow_add-result : goal.overflow_add-result
overflow_add-result c =
    let h = c.args.self.now.header.now in
    let e = ap (λ l. l.witness_body) c.lengths.ensures in
    let m = body_most (fields_of h) h.size in
    let b : c.lengths.result.witness_body ≤ 1000 = omega arith in
    search rules

pub returns : goal.returns
returns c = ap (λ l. 6 + l.witness_body) c.lengths.ensures
