use Rattle.std.proofs.Common.{◌≡◌, ℕ, ◌+◌, ◌-◌, ◌*◌, ◌<◌, ◌≤◌, List, length, take, drop, sym, ap, ◌∙◌, subst, arith}
use Rattle.octets.specs.Shares.{byte_of}
use Rattle.octets.proofs.Shares.{share_end, share_read, share_length, put_more}
use Rattle.codes.specs.Code.{applied}
use Rattle.codes.proofs.Words.{applied_data}
use Rattle.erasure.proofs.Parity.{row_part}
use Rattle.erasure.proofs.combine.apply_rows.Goals as goal

pub slice_bounds-combine-end : goal.slice_bounds-combine-end
slice_bounds-combine-end c =
    share_end c.loop-i.i c.args.n c.args.k (length c.args.rows.now) c.loop-i-test.true c.requires.0

pub slice_bounds-combine-end-in-loop-i : goal.slice_bounds-combine-end-in-loop-i
slice_bounds-combine-end-in-loop-i c =
    share_end c.loop-i.i c.args.n c.args.s (length c.loop-i.out) c.loop-i-test.true (c.loop-i.auto.out ∙ c.requires.1.1)

pub overflow_add-i-in-loop-i : goal.overflow_add-i-in-loop-i
overflow_add-i-in-loop-i c =
    let l : c.loop-i.i * c.args.s + c.args.s ≤ length c.loop-i.out =
    share_end c.loop-i.i c.args.n c.args.s (length c.loop-i.out) c.loop-i-test.true (c.loop-i.auto.out ∙ c.requires.1.1) in
    record { fits = omega arith }

pub loop-i-preserved : goal.loop-i-preserved
loop-i-preserved c =
    let i : ℕ = c.loop-i.i in
    let n : ℕ = c.args.n in
    let k : ℕ = c.args.k in
    let s : ℕ = c.args.s in
    let out : List ℕ = c.loop-i.out in
    let long : length out ≡ n * s = c.loop-i.auto.out ∙ c.requires.1.1 in
    let part : length (take (i * s + s - i * s) (drop (i * s) out)) ≡ s = ap length (share_read s i out) ∙ share_length s i n out long c.loop-i-test.true in
    put_more s i n (i * s + s - i * s) out c.combine.new.sum long c.loop-i-test.true
    (c.combine.auto.sum ∙ part)
    (λ i b. applied k (λ j. byte_of k i j c.args.rows.now) (λ j. byte_of s j b c.args.shares.now))
    c.loop-i.invariant
    (λ b hb. c.combine.ensures b (subst (λ (n : ℕ). b < n) (sym part) hb)
    ∙ row_part n k i c.args.rows.now (λ j. byte_of s j (0 + b) c.args.shares.now) c.requires.0 c.loop-i-test.true
    ∙ applied_data k (λ j. byte_of k i j c.args.rows.now) (λ j. byte_of s j (0 + b) c.args.shares.now) (λ j. byte_of s j b c.args.shares.now)
    (λ j hj. ap (λ (m : ℕ). byte_of s j m c.args.shares.now) (let e : 0 + b ≡ b = omega arith in e)))
