use Rattle.std.proofs.Common.{◌≡◌, ℕ, ◌+◌, ◌-◌, ◌*◌, ◌/◌, ◌%◌, ◌<◌, List, length, take, drop, sym, ap, ◌∙◌, subst}
use Rattle.std.proofs.lemmas.Nat.{div_below}
use Rattle.octets.specs.Shares.{byte_of}
use Rattle.octets.proofs.Shares.{share_end, share_read, share_length, put_more}
use Rattle.octets.proofs.Cells.{byte_cell}
use Rattle.codes.specs.Code.{applied}
use Rattle.codes.proofs.Words.{applied_data}
use Rattle.erasure.proofs.Parity.{row_part}
use Rattle.erasure.proofs.complete.apply_behind.Goals as goal

pub slice_bounds-row-end : goal.slice_bounds-row-end
slice_bounds-row-end c =
    share_end (c.loop-m.m / c.args.w) c.args.k c.args.k (length c.args.rows.now)
    (div_below c.loop-m.m c.args.w c.args.k c.requires.small.1.0 c.loop-m-test.true) c.requires.long.0

pub slice_bounds-combine-end : goal.slice_bounds-combine-end
slice_bounds-combine-end c =
    share_end c.loop-m.m (c.args.k * c.args.w) c.args.s (length c.loop-m.behind) c.loop-m-test.true (c.loop-m.auto.behind ∙ c.requires.long.1.1)

pub loop-m-preserved : goal.loop-m-preserved
loop-m-preserved c =
    let m : ℕ = c.loop-m.m in
    let k : ℕ = c.args.k in
    let w : ℕ = c.args.w in
    let s : ℕ = c.args.s in
    let rows : List ℕ = c.args.rows.now in
    let xs : List ℕ = c.args.front.now in
    let behind : List ℕ = c.loop-m.behind in
    let hi : m / w < k = div_below m w k c.requires.small.1.0 c.loop-m-test.true in
    let long : length behind ≡ k * w * s = c.loop-m.auto.behind ∙ c.requires.long.1.1 in
    let part : length (take (m * s + s - m * s) (drop (m * s) behind)) ≡ s = ap length (share_read s m behind) ∙ share_length s m (k * w) behind long c.loop-m-test.true in
    put_more s m (k * w) (m * s + s - m * s) behind c.combine.new.sum long c.loop-m-test.true
    (c.combine.auto.sum ∙ part)
    (λ m b. applied k (λ j. byte_of k (m / w) j rows) (λ j. byte_of s (j * w + m % w) b xs))
    c.loop-m.invariant
    (λ b hb. c.combine.ensures b (subst (λ (n : ℕ). b < n) (sym part) hb)
    ∙ row_part k k (m / w) rows (λ j. byte_of (w * s) j (m % w * s + b) xs) c.requires.long.0 hi
    ∙ applied_data k (λ j. byte_of k (m / w) j rows) (λ j. byte_of (w * s) j (m % w * s + b) xs) (λ j. byte_of s (j * w + m % w) b xs)
    (λ j hj. byte_cell w s j (m % w) b xs))
