use Rattle.std.proofs.Common.{◌≡◌, drop, Err, sym, refl, ap, ◌∙◌, subst, arith}
use Rattle.blockfile.specs.declared.refusal.FileRefusal.TheVariants.{TooLong}
use Rattle.std.proofs.lemmas.Result.{err_from_is_err_and}
use Rattle.header.specs.Fields.{fields_of}
use Rattle.wire.specs.Reading.{reads_at}
use Rattle.wire.specs.declared.due.Due.TheVariants.{Roots}
use Rattle.blockfile.specs.File.{HeadIs, HeadRead, RootsAre, roots_place}
use Rattle.blockfile.specs.Opening.{closed}
use Rattle.blockfile.specs.Refusals.{told}
use Rattle.blockfile.proofs.Opens.{too_long, bad_header, bad_roots, bad_groups, good_groups, opens_as}
use Rattle.blockfile.proofs.Walks.{same_walk}
use Rattle.blockfile.proofs.open.open_file.Goals as goal

pub returns-then-bytes-gt-FILE_LIMIT : goal.returns-then-bytes-gt-FILE_LIMIT
returns-then-bytes-gt-FILE_LIMIT c = let r = too_long c.args.bytes.now c.args.file.now (omega arith) TooLong refl in record { answer = r.answer; opened = r.opened }

pub returns-in_err-header : goal.returns-in_err-header
returns-in_err-header c =
    let q = err_from_is_err_and c.from_residual.result c.from_residual.ensures.1 in
    let e = c.in_err-header.field-0.0 in
    let p = subst (λ b. HeadRead b.now (Err e)) c.new-reader.ensures.bytes c.in_err-header.ensures.read in
    let r = bad_header c.args.bytes.now c.args.file.now (omega arith) e p in
    rw (q.1, q.2) record { answer = r.answer; opened = r.opened }

pub returns-in_err-roots : goal.returns-in_err-roots
returns-in_err-roots c =
    let q = err_from_is_err_and c.from_residual-in_err-roots.result c.from_residual-in_err-roots.ensures.1 in
    let h = fields_of c.in_ok-header.header in
    let head = subst (λ b. HeadIs b.now h) c.new-reader.ensures.bytes c.in_ok-header.ensures.read in
    let e = c.in_err-roots.field-0.0 in
    let p = subst (λ b. reads_at h Roots roots_place (drop roots_place b.now) ≡ Err (told e)) (c.in_ok-header.ensures.same ∙ c.new-reader.ensures.bytes) c.in_err-roots.ensures.read in
    let r = bad_roots c.args.bytes.now c.args.file.now (omega arith) h head e p in
    rw (q.1, q.2) record { answer = r.answer; opened = r.opened }

pub returns-in_err-run : goal.returns-in_err-run
returns-in_err-run c =
    let q = err_from_is_err_and c.from_residual-in_err-run.result c.from_residual-in_err-run.ensures.1 in
    let h = fields_of c.in_ok-header.header in
    let bs = c.args.bytes.now in
    let same = c.in_ok-header.ensures.same ∙ c.new-reader.ensures.bytes in
    let head = subst (λ b. HeadIs b.now h) c.new-reader.ensures.bytes c.in_ok-header.ensures.read in
    let roots = subst (λ b. RootsAre h b.now c.in_ok-roots.roots.now) same c.in_ok-roots.ensures.read in
    let w = same_walk _ c.run.new.self.index c.new-walk.ensures.header (c.in_ok-roots.ensures.same ∙ same) c.in_ok-roots.ensures.behind c.in_err-run.ensures in
    let r = bad_groups bs c.args.file.now (omega arith) h head c.in_ok-roots.roots.now roots c.in_err-run.field-0.0 c.run.new.self.index w in
    rw (q.1, q.2) record { answer = r.answer; opened = r.opened }

pub invariant_of-file : goal.invariant_of-file
invariant_of-file c =
    let h = fields_of c.in_ok-header.header in
    let bs = c.args.bytes.now in
    let same = c.in_ok-header.ensures.same ∙ c.new-reader.ensures.bytes in
    let head = subst (λ b. HeadIs b.now h) c.new-reader.ensures.bytes c.in_ok-header.ensures.read in
    let roots = subst (λ b. RootsAre h b.now c.in_ok-roots.roots.now) same c.in_ok-roots.ensures.read in
    let w = same_walk _ c.run.new.self.index c.new-walk.ensures.header (c.in_ok-roots.ensures.same ∙ same) c.in_ok-roots.ensures.behind c.in_ok-run.ensures in
    let g = good_groups bs c.args.file.now (omega arith) h head c.in_ok-roots.roots.now roots c.run.new.self.index w in
    record { within = g.2.within }

pub returns : goal.returns
returns c =
    let h = fields_of c.in_ok-header.header in
    let bs = c.args.bytes.now in
    let same = c.in_ok-header.ensures.same ∙ c.new-reader.ensures.bytes in
    let head = subst (λ b. HeadIs b.now h) c.new-reader.ensures.bytes c.in_ok-header.ensures.read in
    let roots = subst (λ b. RootsAre h b.now c.in_ok-roots.roots.now) same c.in_ok-roots.ensures.read in
    let w = same_walk _ c.run.new.self.index c.new-walk.ensures.header (c.in_ok-roots.ensures.same ∙ same) c.in_ok-roots.ensures.behind c.in_ok-run.ensures in
    let g = good_groups bs c.args.file.now (omega arith) h head c.in_ok-roots.roots.now roots c.run.new.self.index w in
    record { answer = ap closed (sym g.1); opened = opens_as _ _ _ _ g.1 (record { head = refl; roots_are = refl; cells = g.2.cells }) }
