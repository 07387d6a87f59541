use Rattle.std.proofs.Common.{cond, not, Err, sym, refl, ap, rules}
use Rattle.octets.specs.Outcome.{plain}
use Rattle.header.specs.Fields.{fields_of}
use Rattle.fraudproof.specs.Form.{case_outcome}
use Rattle.extraction.specs.Extracted.{square_of}
use Rattle.extraction.specs.Extract.{extracted_read}
use Rattle.extraction.proofs.Extracting.{header_not, always_found}
use Rattle.extraction.proofs.extract.extract_with.Goals as goal

pub returns-then-not-rebuild : goal.returns-then-not-rebuild
returns-then-not-rebuild g c =
    let h = fields_of c.args.h.now in
    let f = g.H.Hash.meaning in
    let sq = square_of g.C.Code.table h c.args.shares.now in
    let e = c.if-not-rebuild.ensures.answer in
    record {
      answer = ap (λ t. cond (not t) (Err (plain 27)) (extracted_read f g.C.Code.weight h sq (case_outcome h c.args.bytes.now))) e;
      writes = search rules;
      collision = search rules;
      gives = λ own accepted. absurd (header_not f h sq (sym e) own);
    }

pub unreachable-requires : goal.unreachable-requires
unreachable-requires g c =
    let h = fields_of c.args.h.now in
    let T = g.C.Code.table in
    let accepted = c.in_ok-check_proof.ensures.accepts.sound refl in
    always_found g.H.Hash.meaning T h c.args.shares.now (square_of T h c.args.shares.now) c.rebuild.new.square accepted.proof _ _ _ _
    c.rebuild.ensures.square c.rebuild.ensures.stands (sym c.if-not-rebuild.ensures.answer) accepted.condemns
    (c.in-None.ensures accepted.proof accepted.read)
