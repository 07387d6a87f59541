use Rattle.std.proofs.Common.{Ok, sym, ap, ◌∙◌, subst}
use Rattle.header.specs.Fields.{fields_of}
use Rattle.header.specs.Sizes.{head_len}
use Rattle.wire.specs.Parts.{Begins, after, value_of}
use Rattle.wire.specs.Reading.{reads_at}
use Rattle.wire.specs.Readers.{rest_of}
use Rattle.wire.specs.Writing.{WritesBack}
use Rattle.wire.proofs.Trips.{further}
use Rattle.wire.proofs.reader.Reader.read.Goals as goal

pub returns-clause-answer : goal.returns-clause-answer
returns-clause-answer c =
    let h = fields_of c.args.h.now in
    let r = c.args.self.now in
    let x = value_of c.in_ok-item.item in
    let p = c.in_ok-item.ensures.value ∙ ap (reads_at h c.args.due r.at) c.rest.ensures.value in
    ap (λ t. Ok (x, t)) (further h c.args.due r.at r.bytes.now x c.in_ok-item.behind.now r.inside (sym p)) ∙ p

pub returns-clause-moved : goal.returns-clause-moved
returns-clause-moved c =
    let h = fields_of c.args.h.now in
    let r = c.args.self.now in
    let x = value_of c.in_ok-item.item in
    let p = c.in_ok-item.ensures.value ∙ ap (reads_at h c.args.due r.at) c.rest.ensures.value in
    let f = further h c.args.due r.at r.bytes.now x c.in_ok-item.behind.now r.inside (sym p) in
    record {
      begins = subst (λ s. Begins h (after s head_len) c.in_ok-item.item) c.rest.ensures.place c.in_ok-item.ensures.place.0;
      back = subst (WritesBack h (rest_of r) x) (sym f) (subst (λ bs. WritesBack h bs x c.in_ok-item.behind.now) c.rest.ensures.value c.in_ok-item.ensures.back);
    }
