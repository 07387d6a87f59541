use Rattle.std.proofs.Common.{◌≡◌, ℕ, List, length, refl, ap, ◌∙◌}
use Rattle.erasure.specs.Limits.{ok_width}
use Rattle.erasure.proofs.Bounds.{width_most}
use Rattle.erasure.proofs.Recovers.{places_long, first_rises}
use Rattle.erasure.proofs.Parity.{code_rows_from}
use Rattle.erasure.proofs.table.code_rows.Goals as goal

pub slice_bounds-first-end : goal.slice_bounds-first-end
slice_bounds-first-end g c = width_most c.args.k c.requires

pub weight_table-requires : goal.weight_table-requires
weight_table-requires g c =
    let ps : List ℕ = c.count_places.new.places in
    let long : length ps ≡ c.args.k = c.count_places.auto.places ∙ places_long c.args.k (width_most c.args.k c.requires) in
    (ap ok_width long ∙ c.requires, first_rises (length ps) ps refl c.count_places.ensures)

pub returns : goal.returns
returns g c =
    code_rows_from g.C.Code.table g.C.Code.weight g.met.C.Code.weighs c.args.k c.requires c.count_places.new.places c.weight_table.result.now
    (c.count_places.auto.places ∙ places_long c.args.k (width_most c.args.k c.requires)) c.count_places.ensures c.weight_table.ensures
