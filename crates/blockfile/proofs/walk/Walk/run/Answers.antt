use Rattle.std.proofs.Common.{◌≡◌, ℕ, ◌+◌, ◌-◌, ◌≤◌, List, [], length, drop, Ok, sym, refl, ap, ◌∙◌, subst, arith, length-drop}
use Rattle.std.proofs.lemmas.Bool.{eqb-true}
use Rattle.std.proofs.lemmas.Result.{err_from_is_err_and}
use Rattle.header.specs.Fields.{fields_of}
use Rattle.wire.specs.Parts.{value_of}
use Rattle.wire.specs.Reading.{reads_at}
use Rattle.wire.specs.Readers.{rest_of}
use Rattle.blockfile.specs.Opening.{closed}
use Rattle.blockfile.specs.Steps.{held, go}
use Rattle.blockfile.specs.Walk.{finish_by}
use Rattle.blockfile.proofs.Shares.{in_its_range}
use Rattle.blockfile.proofs.Walks.{Walking, starts, same_walk, some_left, faulty, refuses, goes_on, refused_walk, ended_walk}
use Rattle.blockfile.proofs.walk.Walk.run.Goals as goal

pub loop-reader-init : goal.loop-reader-init
loop-reader-init c =
    let w = c.args.self.now in
    let r = c.args.reader in
    record {
      header = refl;
      bytes = refl;
      walking = subst (λ p. Walking (fields_of w.header) r.bytes.now r.at p w.index r.at) (sym c.requires.fresh.0) (starts (fields_of w.header) r.bytes.now r.at w.index c.requires.file.0 r.inside c.requires.fresh.1);
    }

pub returns-in_err-item : goal.returns-in_err-item
returns-in_err-item c =
    let q = err_from_is_err_and c.from_residual.result c.from_residual.ensures.1 in
    let w = c.loop-reader.self in
    let r = c.loop-reader.reader in
    let h = fields_of w.header in
    let some = some_left (length (rest_of r)) c.loop-reader-test.ensures in
    let p = c.in_err-item.ensures.answer ∙ ap (λ d. reads_at h d r.at (rest_of r)) c.due.ensures in
    rw (q.1, q.2) (same_walk _ w.index c.loop-reader.invariant.header c.loop-reader.invariant.bytes refl (refused_walk h r.bytes.now _ _ w.index (faulty h r.bytes.now w.header.width _ w.point w.index r.at c.loop-reader.invariant.walking (rest_of r) refl some _ p)))

pub step-requires : goal.step-requires
step-requires c =
    let w = c.loop-reader.self in
    let r = c.loop-reader.reader in
    let h = fields_of w.header in (
      in_its_range h _ r.at (rest_of r) (value_of c.in_ok-item.item) _ (sym c.in_ok-item.ensures.answer),
      omega (arith, c.place-at.ensures, r.inside, ap (λ b. length b.now) c.loop-reader.invariant.bytes, c.requires.file.1),
    )

pub returns-in_err-step : goal.returns-in_err-step
returns-in_err-step c =
    let q = err_from_is_err_and c.from_residual-in_err-step.result c.from_residual-in_err-step.ensures.1 in
    let w = c.loop-reader.self in
    let r = c.loop-reader.reader in
    let h = fields_of w.header in
    let x = value_of c.in_ok-item.item in
    let some = some_left (length (rest_of r)) c.loop-reader-test.ensures in
    let p = c.in_ok-item.ensures.answer ∙ ap (λ d. reads_at h d r.at (rest_of r)) c.due.ensures in
    let g = c.in_err-step.ensures.answer ∙ ap (λ n. go h w.point w.index n x) c.place-at.ensures in
    let v = c.step.new.self in
    rw (q.1, q.2) (same_walk _ v.index c.loop-reader.invariant.header c.loop-reader.invariant.bytes refl (refused_walk h r.bytes.now _ _ v.index (refuses h r.bytes.now w.header.width _ w.point w.index r.at c.loop-reader.invariant.walking (rest_of r) refl some x _ p _ g)))

pub loop-reader-preserved : goal.loop-reader-preserved
loop-reader-preserved c =
    let w = c.loop-reader.self in
    let r = c.loop-reader.reader in
    let h = fields_of w.header in
    let bs : List ℕ = r.bytes.now in
    let start : ℕ = c.args.reader.at in
    let v = c.step.new.self in
    let t = c.read.new.self in
    let x = value_of c.in_ok-item.item in
    let some = some_left (length (rest_of r)) c.loop-reader-test.ensures in
    let z = ap (λ b. drop t.at b.now) c.read.ensures.same in
    let p = ap (λ l. Ok (x, l)) (sym z) ∙ c.in_ok-item.ensures.answer ∙ ap (λ d. reads_at h d r.at (rest_of r)) c.due.ensures in
    let g = c.in_ok-step.ensures.answer ∙ ap (λ n. go h w.point w.index n x) c.place-at.ensures in
    let le : t.at ≤ length bs = subst (λ b. t.at ≤ length b.now) c.read.ensures.same t.inside in
    let n1 = length-drop r.at bs in
    let n2 = length-drop t.at bs in
    let next : t.at ≡ r.at + (length (drop r.at bs) - length (drop t.at bs)) = omega (arith, c.in_ok-item.ensures.on) in
    let walking = goes_on h bs w.header.width _ w.point w.index r.at c.loop-reader.invariant.walking (rest_of r) refl some x (drop t.at bs) p (held v.point v.index) g t.at next in
    record {
      header = c.step.ensures.same ∙ c.loop-reader.invariant.header;
      bytes = c.read.ensures.same ∙ c.loop-reader.invariant.bytes;
      walking = subst (λ f. Walking (fields_of f) t.bytes.now start v.point v.index t.at) (sym c.step.ensures.same) (subst (λ b. Walking h b.now start v.point v.index t.at) (sym c.read.ensures.same) walking);
    }

pub loop-reader-smaller : goal.loop-reader-smaller
loop-reader-smaller c =
    let t = c.read.new.self in
    let n = ap (λ b. length b.now) c.read.ensures.same in
    omega (arith, c.in_ok-item.ensures.on, t.inside)

pub returns : goal.returns
returns c =
    let w = c.loop-reader.self in
    let r = c.loop-reader.reader in
    let h = fields_of w.header in
    let none = eqb-true (length (rest_of r)) 0 (sym c.loop-reader-test.ensures) in
    let le : length r.bytes.now ≤ r.at = omega (arith, length-drop r.at r.bytes.now) in
    let p = c.finish.ensures ∙ ap (λ n. closed (finish_by w.point [] n)) c.place.ensures in
    same_walk _ w.index c.loop-reader.invariant.header c.loop-reader.invariant.bytes refl (ended_walk h r.bytes.now w.header.width _ w.point w.index r.at c.loop-reader.invariant.walking le _ p)
