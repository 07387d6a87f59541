use Rattle.std.proofs.Common.{rules, ◌≡◌, ◌&&◌, eqb, ap, ◌∙◌}
use Rattle.std.proofs.lemmas.Iterator.{YieldsList-from_slice}
use Rattle.std.proofs.lemmas.Iterator.Search.{find_from_yields_List}
use Rattle.std.proofs.lemmas.Iterator.Adapters.{YieldsList-from_flatten}
use Rattle.std.specs.List.{find, flat_map}
use Rattle.std.specs.Option.{option_map, option_to_list}
use borrow.Author.Tests.{tests}
use Rattle.cache.specs.declared.kept.Kept.{Kept}
use Rattle.cache.specs.Keeping.{evidence_of, place_in}
use Rattle.cache.proofs.Keepers.{place_gives, first_kept}
use Rattle.cache.proofs.keeping.find.Goals as goal

pub returns : goal.returns
returns c k s =
    let r = c.args.cell.row in
    let l = c.args.cell.col in
    let is : option_map (λ y. y.now) c.find.result ≡ find (λ (v : Kept). eqb v.cell.row r && eqb v.cell.col l) (flat_map option_to_list c.args.slots.now) =
    find_from_yields_List (λ (v : Kept). eqb v.cell.row r && eqb v.cell.col l) _ _ c.find.result c.find.ensures.ran
    (YieldsList-from_flatten _ _ (λ y. y.now) option_to_list (λ x j h. place_gives j x.now h.0 h.1) (YieldsList-from_slice c.args.slots.now cc) c.flatten.ensures.front c.flatten.ensures.back
    c.flatten.ensures.done)
    (λ x b q k. search (rules, tests)) in
    ap (λ o. evidence_of (place_in k s o)) (c.copied.ensures ∙ is) ∙ first_kept r l k s c.args.slots.now
