use Rattle.std.proofs.Common.{◌≤◌, sym, ap, ◌∙◌, arith}
use Rattle.header.specs.Fields.{fields_of}
use Rattle.header.specs.Sizes.{string_len}
use Rattle.header.proofs.Measures.{measured}
use Rattle.fraud.proofs.Words.{space_long}
use Rattle.extraction.proofs.Fitting.{extract_parts}
use Rattle.extraction.proofs.extract.extract.Goals as goal

pub slice_bounds-roots-end : goal.slice_bounds-roots-end
slice_bounds-roots-end g c =
    let h = c.args.h.now in
    let m = measured (fields_of h) c.lengths-len.result h.width h.size c.lengths-len.ensures in
    let l : c.lengths-len.result.roots ≤ 4096 = omega arith in
    l

pub extract_with-requires-clause-block : goal.extract_with-requires-clause-block
extract_with-requires-clause-block g c =
    let h = c.args.h.now in
    let m = measured (fields_of h) c.lengths-len.result h.width h.size c.lengths-len.ensures in
    let l : c.lengths-len.result.roots ≤ 4096 = omega arith in
    let fits = extract_parts (fields_of h) _ string_len string_len _ (sym c.if-not-lengths_fit.ensures) in
    (fits.shares, (fits.square, space_long c.lengths-len.result.roots 4096 l ∙ ap (λ l. l.roots) c.lengths-len.ensures))

pub returns-clause-gives : goal.returns-clause-gives
returns-clause-gives g c = λ given accepted fits. let e = c.extract_with.ensures in let m = e.gives given.root accepted in (m.0, m.1, e.collision m.0 m.1)
