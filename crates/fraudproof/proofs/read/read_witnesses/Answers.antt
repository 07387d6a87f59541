use Rattle.std.proofs.Common.{◌<◌, length, sym, refl, ap, arith, length-drop}
use Rattle.std.proofs.lemmas.Result.{err_from_is_err_and}
use Rattle.header.specs.Fields.{fields_of}
use Rattle.wire.specs.Readers.{rest_of}
use Rattle.fraudproof.proofs.Forms.{walk_break, walk_more, walk_end, walk_over, nothing_read}
use Rattle.fraudproof.proofs.read.read_witnesses.Goals as goal

pub returns-in_err-read-clause-answer : goal.returns-in_err-read-clause-answer
returns-in_err-read-clause-answer c =
    let p = err_from_is_err_and c.from_residual.result c.from_residual.ensures.1 in
    rw (p.1, p.2) (walk_break (fields_of c.args.h.now) c.args.h.now.k c.args.reader.at (rest_of c.args.reader) c.loop-n._n c.loop-n.reader.at (rest_of c.loop-n.reader)
    c.loop-n.invariant (omega arith) _ c.in_err-read.ensures.answer)

pub loop-n-preserved : goal.loop-n-preserved
loop-n-preserved c =
    let from = c.loop-n.reader in
    let to = c.read.new.self in
    let same = ap (λ b. length b.now) c.read.ensures.same in
    let on : from.at < to.at = c.in_ok-read.ensures.on in
    walk_more (fields_of c.args.h.now) c.args.h.now.k c.args.reader.at (rest_of c.args.reader) c.loop-n._n from.at (rest_of from)
    c.loop-n.invariant (omega arith) _ _ c.in_ok-read.ensures.answer to.at
    (omega (arith, length-drop from.at from.bytes.now, length-drop to.at to.bytes.now, same, to.inside))

pub returns-in_err-read-2-clause-answer : goal.returns-in_err-read-2-clause-answer
returns-in_err-read-2-clause-answer c =
    let p = err_from_is_err_and c.from_residual-in_err-read-2.result c.from_residual-in_err-read-2.ensures.1 in
    rw (p.1, p.2) (walk_over (fields_of c.args.h.now) c.args.h.now.k c.args.reader.at (rest_of c.args.reader) c.loop-n._n c.loop-n.reader.at (rest_of c.loop-n.reader)
    c.loop-n.invariant (omega arith) (omega arith) c.if-not-is_at_end.ensures _ c.in_err-read-2.ensures.answer)

pub returns-in_ok-read-2-clause-answer : goal.returns-in_ok-read-2-clause-answer
returns-in_ok-read-2-clause-answer c =
    absurd (nothing_read (fields_of c.args.h.now) c.loop-n.reader.at (rest_of c.loop-n.reader) _ (sym c.in_ok-read-2.ensures.answer))

pub returns-in_ok-read-2-clause-form : goal.returns-in_ok-read-2-clause-form
returns-in_ok-read-2-clause-form c =
    absurd (nothing_read (fields_of c.args.h.now) c.loop-n.reader.at (rest_of c.loop-n.reader) _ (sym c.in_ok-read-2.ensures.answer))

pub returns-else-not-is_at_end-clause-answer : goal.returns-else-not-is_at_end-clause-answer
returns-else-not-is_at_end-clause-answer c =
    (walk_end (fields_of c.args.h.now) c.args.h.now.k c.args.reader.at (rest_of c.args.reader) c.loop-n._n c.loop-n.reader.at (rest_of c.loop-n.reader)
    c.loop-n.invariant (omega arith) (omega arith) refl c.if-not-is_at_end.ensures).0

pub returns-else-not-is_at_end-clause-form : goal.returns-else-not-is_at_end-clause-form
returns-else-not-is_at_end-clause-form c =
    (walk_end (fields_of c.args.h.now) c.args.h.now.k c.args.reader.at (rest_of c.args.reader) c.loop-n._n c.loop-n.reader.at (rest_of c.loop-n.reader)
    c.loop-n.invariant (omega arith) (omega arith) refl c.if-not-is_at_end.ensures).1
