use Rattle.std.proofs.Common.{◌≡◌, ℕ, ◌+◌, ◌-◌, ◌*◌, ◌<◌, List, length, ap, ◌∙◌, inl, inr, arith, length-append, length-take}
use borrow.Rule.Slice.PartMut.{put_mid}
use Rattle.std.proofs.lemmas.Bool.{cases_lt}
use Rattle.octets.proofs.Cells.{put_rest}
use Rattle.hash.specs.Digests.{digest_len}
use Rattle.merkle.specs.Tree.{root}
use Rattle.merkle.specs.Climb.{Node, join_of, plain_rule, slot}
use Rattle.layout.proofs.Entries.{entries_all}
use Rattle.commitment.specs.Roots.{line_leaf, square_roots}
use Rattle.commitment.proofs.Fitting.{cells_measured}
use Rattle.commitment.proofs.Folds.{rest_front, rest_behind, slot_take}
use Rattle.commitment.proofs.cells.Cells.put_roots.Goals as goal

pub fold-requires-clause-rows : goal.fold-requires-clause-rows
fold-requires-clause-rows g c =
    let s = c.args.self.now in
    let m = cells_measured s.header.now s.lengths s.measured in
    omega (arith, m.power)

pub returns : goal.returns
unfolding square_roots
returns g c =
    let f = g.H.Hash.meaning in
    let s = c.args.self.now in
    let m = cells_measured s.header.now s.lengths s.measured in
    let w = s.lengths.width in
    let rows = c.fold.new.roots in
    let columns = c.copy_from_slice.new.self in
    let out : List ℕ = put_mid (digest_len * w) (length rows - digest_len * w) rows columns in
    let of : ℕ → Node = λ n. root (join_of plain_rule f) s.lengths.depth (line_leaf f w s.lengths.share s.shares.now n) in
    let long : length out ≡ digest_len * (2 * w) =
    ap length (put_rest (digest_len * w) rows columns)
    ∙ simp (length-append, length-take) (omega (arith, ap length c.copy_from_slice.ensures.after, length-take {A = ℕ})) in
    let at : (n : ℕ) → n < 2 * w → slot n out ≡ of n =
    λ n l. elim (cases_lt n w) [
      | inl b ↦ rest_front w n rows columns (omega arith) b ∙ c.fold.ensures.rows n (omega (arith, m.power))
      | inr b ↦
          ap (λ m. slot m out) (let e : n ≡ w + (n - w) = omega arith in e)
          ∙ rest_behind w (n - w) rows columns (omega arith)
          ∙ ap (slot (n - w)) c.copy_from_slice.ensures.after
          ∙ slot_take (n - w) (digest_len * w) c.fold.new.work (omega arith)
          ∙ c.fold.ensures.columns (n - w) (omega arith)
          ∙ ap of (let e : w + (n - w) ≡ n = omega arith in e)
    ] in
    entries_all of 0 (2 * w) out long (λ n l. at n l ∙ ap of (omega arith))
