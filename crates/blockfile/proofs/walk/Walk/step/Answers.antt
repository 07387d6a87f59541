use Rattle.std.proofs.Common.{◌≡◌, true, ap, subst, arith}
use Rattle.std.proofs.lemmas.Bool.{ltb-true}
use Rattle.std.proofs.lemmas.Bool.Decides.{nat_tests}
use Rattle.header.specs.Fields.{fields_of}
use Rattle.header.specs.Sizes.{width}
use Rattle.wire.specs.Parts.{value_of}
use Rattle.wire.specs.Reading.{in_range}
use Rattle.blockfile.specs.Steps.{LineLow}
use Rattle.blockfile.proofs.walk.Walk.step.Goals as goal

pub enter-requires : goal.enter-requires
unfolding in_range
enter-requires c =
    let h = fields_of c.args.self.now.header in
    let e = ap (λ x. in_range h (value_of x)) c.in-Group.is in
    let p : in_range h (value_of c.args.item.now) ≡ true = c.requires.0 in
    (grind (arith, nat_tests), grind (arith, nat_tests))

pub note-requires : goal.note-requires
unfolding in_range
note-requires c =
    let h = fields_of c.args.self.now.header in
    let e = ap (λ x. in_range h (value_of x)) c.in-Share.is in
    let p : in_range h (value_of c.args.item.now) ≡ true = c.requires.0 in
    let low = ltb-true c.in-Inside.index (width h) (subst (LineLow h) c.in-Inside.is c.args.self.now.low) in
    (low, (grind (arith, nat_tests), c.requires.1))
