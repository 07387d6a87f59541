use Rattle.std.proofs.Common.{length, sym}
use Rattle.codes.specs.Code.{scaled_weight}
use Rattle.erasure.proofs.Tables.{weighable_parts, weighed_from}
use Rattle.erasure.proofs.weigh.weigh.Goals as goal

pub invariant_of-weights : goal.invariant_of-weights
invariant_of-weights g c =
    let w = weighable_parts c.args.places.now (length c.args.rows.now) (sym c.if-are_weighable.ensures) in
    record { few = w.narrow; apart = w.places }

pub weights-requires : goal.weights-requires
weights-requires g c = (weighable_parts c.args.places.now (length c.args.rows.now) (sym c.if-are_weighable.ensures)).long

pub returns-then-are_weighable : goal.returns-then-are_weighable
returns-then-are_weighable g c =
    weighed_from (scaled_weight g.S.Scaled.factor) c.args.places.now c.args.rows.now c.weights.new.rows (sym c.if-are_weighable.ensures)
    c.weights.auto.rows c.weights.ensures
