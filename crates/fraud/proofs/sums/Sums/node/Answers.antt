use Rattle.std.proofs.Common.{◌≡◌, ◌+◌, ◌*◌, ◌≤◌, length, sym, refl, ap, ◌∙◌, arith}
use Rattle.std.proofs.lemmas.Bool.{cond-true}
use Rattle.hash.specs.Digests.{parts_limit}
use Rattle.hash.proofs.Digested.{out_ok}
use Rattle.merkle.specs.Climb.{plain_rule, leaf_of}
use Rattle.erasure.specs.Rows.{row_sum}
use Rattle.erasure.proofs.Bounds.{size_most, width_most, width_some}
use Rattle.erasure.proofs.Parts.{row_fits_lem, row_sum_length}
use Rattle.header.specs.Fields.{fields_of}
use Rattle.fraudproof.specs.Proof.{witness_len}
use Rattle.fraud.proofs.sums.Sums.node.Goals as goal

pub returns : goal.returns
returns g c =
    let s = c.args.self.now.shown in
    let h = s.header.now in
    let x = fields_of h in
    let row = c.args.row.now in
    let p = c.requires in
    let few = width_most h.k h.width in
    let some = width_some h.k h.width in
    let short = size_most h.s h.size in
    let size = c.record_len.result in
    let size-is : size ≡ witness_len x = c.record_len.ensures in
    let inside : 9 + length c.args.sum.now ≤ size = omega (arith, p.1) in
    let sum : c.apply_row.new.sum ≡ row_sum row (witness_len x) 9 h.s s.records.now =
    c.apply_row.ensures.written
    ∙ cond-true _ _ _ (row_fits_lem (length row) (length s.records.now) size 9 (length c.args.sum.now) (omega arith) (omega arith) (s.whole ∙ ap (λ n. n * witness_len x) (sym p.0) ∙ ap (λ n. length row * n) (sym size-is)))
    ∙ ap (λ n. row_sum row size 9 n s.records.now) p.1 ∙ ap (λ n. row_sum row n 9 h.s s.records.now) size-is in
    let few : length c.apply_row.new.sum ≤ parts_limit = omega (arith, ap length sum, row_sum_length row (witness_len x) 9 h.s s.records.now) in
    c.leaf_digest.ensures.written ∙ out_ok (length c.apply_row.new.sum) _ _ few refl ∙ ap (leaf_of plain_rule g.H.Hash.meaning) sum
