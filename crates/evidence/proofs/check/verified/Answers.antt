use Rattle.std.proofs.Common.{◌==◌, length, sym, ◌∙◌, arith}
use Rattle.std.proofs.lemmas.Bool.{and_parts, eqb-true}
use Rattle.header.specs.Fields.{fields_of}
use Rattle.header.proofs.Measures.{measured}
use Rattle.evidence.proofs.check.verified.Goals as goal

pub climb_two-end-requires : goal.climb_two-end-requires
climb_two-end-requires g c =
    let h = c.args.h.now in
    let n = c.lengths-n.result in
    let m = measured (fields_of h) n h.width h.size c.lengths-n.ensures in
    let fit = and_parts (length c.args.share.now == n.share) (length c.args.path.now == n.path) (sym c.if-not-is_evidence.ensures) in
    (m.deep, (omega (arith, m.sized, eqb-true _ _ fit.0), eqb-true _ _ fit.1 ∙ m.path))
