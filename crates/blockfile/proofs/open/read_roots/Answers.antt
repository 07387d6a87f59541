use Rattle.std.proofs.Common.{◌≤◌, length, sym, ap, ◌∙◌, subst}
use Rattle.header.specs.Fields.{fields_of}
use Rattle.wire.specs.Parts.{value_of}
use Rattle.blockfile.specs.File.{groups_place, roots_place}
use Rattle.blockfile.proofs.Heads.{next_read, come_to, roots_due, not_roots, roots_read}
use Rattle.blockfile.proofs.open.read_roots.Goals as goal

pub returns-in_default : goal.returns-in_default
returns-in_default c =
    let h = fields_of c.args.h.now in
    let p = next_read h c.args.reader.now c.read.new.self _ c.requires c.read.ensures.same c.in_ok-item.ensures.answer in
    let d = roots_due h 44 _ _ _ p in
    absurd (not_roots c.in_ok-item.item d.0 d.1 c.in_default.not-Roots)

pub returns-clause-read : goal.returns-clause-read
returns-clause-read c =
    let h = fields_of c.args.h.now in
    let bs = c.args.reader.now.bytes.now in
    let p = next_read h c.args.reader.now c.read.new.self _ c.requires c.read.ensures.same c.in_ok-item.ensures.answer in
    let le : roots_place ≤ length bs = subst (λ n. n ≤ length bs) c.requires c.args.reader.now.inside in
    roots_read h bs _ _ c.in-Roots.roots.now le p (ap value_of c.in-Roots.is)

pub returns-clause-behind : goal.returns-clause-behind
returns-clause-behind c =
    let h = fields_of c.args.h.now in
    let bs = c.args.reader.now.bytes.now in
    let p = next_read h c.args.reader.now c.read.new.self _ c.requires c.read.ensures.same c.in_ok-item.ensures.answer in
    let le : roots_place ≤ length bs = subst (λ n. n ≤ length bs) c.requires c.args.reader.now.inside in
    let r = roots_read h bs _ _ c.in-Roots.roots.now le p (ap value_of c.in-Roots.is) in
    let inside = subst (λ b. c.read.new.self.at ≤ length b.now) c.read.ensures.same c.read.new.self.inside in
    come_to bs c.read.new.self.at (groups_place h) _ _ inside r.long (sym p ∙ r.reads)
