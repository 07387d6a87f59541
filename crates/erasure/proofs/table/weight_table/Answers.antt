use Rattle.std.proofs.Common.{ℕ, ◌*◌, ◌≤◌, length, ◌∙◌, arith, length-take}
use Rattle.erasure.proofs.Bounds.{width_most}
use Rattle.erasure.proofs.Tables.{room, weighed_whole}
use Rattle.erasure.proofs.table.weight_table.Goals as goal

pub overflow_mul-rows-2 : goal.overflow_mul-rows-2
overflow_mul-rows-2 g c =
    let k : ℕ = length c.args.places.now in
    let r : 2 * k * k ≤ 2048 = room k (width_most k c.requires.0) in
    record { fits = omega arith }

pub slice_bounds-rows-end : goal.slice_bounds-rows-end
slice_bounds-rows-end g c = room (length c.args.places.now) (width_most (length c.args.places.now) c.requires.0)

pub returns : goal.returns
returns g c =
    let k : ℕ = length c.args.places.now in
    let r : 2 * k * k ≤ 2048 = room k (width_most k c.requires.0) in
    c.weights.ensures ∙ weighed_whole g.C.Code.weight c.args.places.now _ c.requires.0 c.requires.1 (simp length-take (omega arith))
