use Rattle.std.proofs.Common.{◌≡◌, ℕ, ◌+◌, ◌-◌, ◌/◌, ◌%◌, ◌^◌, ◌<◌, List, length, get_or, ap, ◌∙◌, sym, arith}
use lib.Bits.{bit_xor}
use Rattle.std.proofs.lemmas.List.{get_or-map, get_or-replicate}
use Rattle.octets.specs.Shares.{byte_of}
use Rattle.galois.specs.Field.{mul}
use Rattle.galois.specs.Vectors.{doubled}
use Rattle.codes.specs.Code.{applied}
use Rattle.codes.specs.Words.{at}
use Rattle.erasure.proofs.Horner.{bit_more, bit_none, bit_all}
use Rattle.erasure.proofs.combine.combine.Goals as goal

pub loop-bit-init : goal.loop-bit-init
loop-bit-init c = λ b h.
    ap (λ zs. get_or zs b 0) (c.fill.ensures.after (λ y e. e)) ∙ get_or-replicate {A = ℕ} (length c.args.sum.now) b 0 0 (omega arith)
    ∙ bit_none (length c.args.row.now) (at c.args.row.now) (λ j. byte_of c.args.size j (c.args.from + b) c.args.shares.now) (λ j. (c.type_inv.row j).fits)

-- one bit more: the sum doubled, and the terms of that bit
turn : (k n m : ℕ) (row d : ℕ → ℕ) (xs ys : List ℕ) (b y : ℕ) → ((j : ℕ) → row j < 256) → n + 1 ≡ m → ys ≡ doubled xs → b < length xs
    → get_or xs b 0 ≡ applied k (λ j. row j / 2 ^ m) d
    → y ≡ bit_xor (get_or ys b 0) (applied k (λ j. row j / 2 ^ n % 2) d)
    → y ≡ applied k (λ j. row j / 2 ^ n) d
turn k n m row d xs ys b y small e twice h was adds =
    adds
    ∙ ap (λ (x : ℕ). bit_xor x (applied k (λ j. row j / 2 ^ n % 2) d))
    (ap (λ zs. get_or zs b 0) twice ∙ get_or-map (mul 2) xs b 0 0 h
    ∙ ap (mul 2) (was ∙ ap (λ (i : ℕ). applied k (λ j. row j / 2 ^ i) d) (sym e)))
    ∙ sym (bit_more k n row d small)

pub loop-bit-preserved : goal.loop-bit-preserved
loop-bit-preserved c = λ b h.
    turn (length c.args.row.now) (c.loop-bit.bit - 1) c.loop-bit.bit (at c.args.row.now) (λ j. byte_of c.args.size j (c.args.from + b) c.args.shares.now)
    c.loop-bit.sum c.double_share.new.share b (get_or c.add_selected.new.sum b 0)
    (λ j. (c.type_inv.row j).fits) (let t : 0 < c.loop-bit.bit = c.loop-bit-test.true in omega arith) c.double_share.ensures (omega arith) (c.loop-bit.invariant b h) (c.add_selected.ensures b (omega arith))

pub returns : goal.returns
returns c = λ b h.
    let e : c.loop-bit.bit ≡ 0 = omega arith in
    c.loop-bit.invariant b (omega arith)
    ∙ ap (λ (i : ℕ). applied (length c.args.row.now) (λ j. at c.args.row.now j / 2 ^ i) (λ j. byte_of c.args.size j (c.args.from + b) c.args.shares.now)) e
    ∙ bit_all (length c.args.row.now) (at c.args.row.now) (λ j. byte_of c.args.size j (c.args.from + b) c.args.shares.now)
