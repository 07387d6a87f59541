use Rattle.std.proofs.Common.{◌≡◌, ℕ, ◌+◌, ◌-◌, ◌*◌, ◌/◌, ◌<◌, ◌≤◌, cond, List, ◌++◌, length, get_or, take, drop, sym, ap, ◌∙◌, subst, ap₂, mul_assoc, arith}
use Rattle.codes.specs.Code.{applied}
use Rattle.octets.proofs.Cells.{both_halves}
use Rattle.octets.specs.Shares.{byte_of}
use Rattle.codes.specs.Words.{codeword}
use Rattle.erasure.proofs.Bounds.{width_most}
use Rattle.erasure.proofs.Parity.{by_share_bytes, codeword_halves, complete_parts, front_small, half_long, rest_from_rows}
use Rattle.erasure.proofs.complete.complete.Goals as goal

pub code_rows-rows-requires : goal.code_rows-rows-requires
code_rows-rows-requires g c = (complete_parts c.args.k c.args.w c.args.s _ (sym c.if-not-complete_fits.ensures)).wide

-- the data are half of the word
half_is : (k n l : ℕ) → l ≡ 2 * k * n → l / 2 ≡ k * n
half_is k n l e = let f : 2 * k * n ≡ k * n + k * n = both_halves k n in omega arith

pub apply_behind-requires : goal.apply_behind-requires
apply_behind-requires g c =
    let k : ℕ = c.args.k in
    let n : ℕ = c.args.w * c.args.s in
    let f = complete_parts k c.args.w c.args.s (length c.args.word.now) (sym c.if-not-complete_fits.ensures) in
    let l : k ≤ 32 = width_most k f.wide in
    let e : 2 * k * n ≡ k * n + k * n = both_halves k n in
    let half : length c.args.word.now / 2 ≡ k * n = half_is k n (length c.args.word.now) f.long in
    let long : length c.args.word.now ≡ 2 * k * n = f.long in
    let m : k * c.args.w * c.args.s ≡ k * n = mul_assoc k c.args.w c.args.s in
    let back_len : length c.split_at_mut-front.result.1.now + length c.args.word.now / 2 ≡ length c.args.word.now = c.split_at_mut-front.ensures.back_len in
    let back : length c.split_at_mut-front.result.1.now ≡ k * c.args.w * c.args.s = omega arith in
    record {
      small = (omega arith, (f.some, (f.few, f.sized)));
      long = (half_long k c.code_rows-rows.result.now c.code_rows-rows.ensures.long, (c.split_at_mut-front.ensures.front_len ∙ half, back));
    }

pub returns-clause-whole : goal.returns-clause-whole
returns-clause-whole g c =
    let k : ℕ = c.args.k in
    let w : ℕ = c.args.w in
    let s : ℕ = c.args.s in
    let old : List ℕ = c.args.word.now in
    let xs : List ℕ = take (k * (w * s)) old in
    let rows : List ℕ = c.code_rows-rows.result.now in
    let e = c.if-not-complete_fits.ensures in
    let f = complete_parts k w s (length old) (sym e) in
    let l : k ≤ 32 = width_most k f.wide in
    let half : length old / 2 ≡ k * (w * s) = half_is k (w * s) (length old) f.long in
    let front_is : c.split_at_mut-front.result.0.now ≡ xs = c.split_at_mut-front.ensures.front ∙ ap (λ n. take n old) half in
    let m : k * w * s ≡ k * (w * s) = mul_assoc k w s in
    let two : 2 * k * (w * s) ≡ k * (w * s) + k * (w * s) = both_halves k (w * s) in
    let long : length old ≡ 2 * k * (w * s) = f.long in
    let back_len : length c.split_at_mut-front.result.1.now + length old / 2 ≡ length old = c.split_at_mut-front.ensures.back_len in
    let back : length c.split_at_mut-front.result.1.now ≡ k * (w * s) = omega arith in
    let rest : c.apply_behind.new.behind ≡ drop (k * (w * s)) (codeword g.C.Code.table k (w * s) xs) =
    rest_from_rows g.C.Code.table k (w * s) rows xs c.apply_behind.new.behind c.code_rows-rows.ensures (c.apply_behind.auto.behind ∙ back)
    (λ i hi x hx.
    by_share_bytes k w s (λ i j. byte_of k i j (take (length rows - k * k) (drop (k * k) rows))) c.split_at_mut-front.result.0.now c.apply_behind.new.behind
    c.apply_behind.ensures i hi x hx
    ∙ ap (λ ys. applied k (λ j. byte_of k i j (take (length rows - k * k) (drop (k * k) rows))) (λ j. byte_of (w * s) j x ys)) front_is) in
    ap₂ ◌++◌ front_is rest
    ∙ codeword_halves g.C.Code.table g.met.C.Code.first k (w * s) (omega arith) xs (sym (ap length front_is) ∙ c.split_at_mut-front.ensures.front_len ∙ half)
    (λ n. subst (λ ys. get_or ys n 0 < 256) front_is (front_small c.split_at_mut-front.result.0.now c.apply_behind.new.behind (λ n. (c.type_inv.word n).fits) n))
    ∙ ap (λ t. cond t (codeword g.C.Code.table k (w * s) xs) old) e
