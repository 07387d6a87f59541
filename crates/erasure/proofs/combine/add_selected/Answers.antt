use Rattle.std.proofs.Common.{◌≡◌, ℕ, ◌+◌, ◌-◌, ◌*◌, ◌/◌, ◌%◌, ◌^◌, ◌<◌, List, length, get_or, take, drop, ap, ◌∙◌, arith}
use lib.Bits.{bit_xor}
use Rattle.std.proofs.lemmas.List.{get_or-take, get_or-drop}
use Rattle.octets.specs.Shares.{byte_of}
use Rattle.octets.proofs.Shares.{share_end}
use Rattle.galois.specs.Vectors.{added}
use Rattle.galois.proofs.Vectors.{get_d_added}
use Rattle.codes.specs.Code.{applied}
use Rattle.codes.specs.Words.{at}
use Rattle.erasure.proofs.Horner.{applied_none, more_with, more_without}
use Rattle.erasure.proofs.combine.add_selected.Goals as goal
use Rattle.erasure.proofs.combine.add_selected.Goals.{then-coefficient-bit-eq1, else-coefficient-bit-eq1}

pub loop-j-init : goal.loop-j-init
loop-j-init c = λ b h.
    applied_none (λ j. at c.args.row.now j / 2 ^ c.args.bit % 2) (λ j. byte_of c.args.size j (c.args.from + b) c.args.shares.now) (get_or c.args.sum.now b 0)

pub slice_bounds-add_share-end : goal.slice_bounds-add_share-end
slice_bounds-add_share-end c =
    share_end c.loop-j.j (length c.args.row.now) c.args.size (length c.args.shares.now) c.loop-j-test.true c.requires.1.0

-- byte b after that part of share j was added
with_share : (xs ys shares : List ℕ) (size from j b : ℕ) → ys ≡ added xs (take (j * size + size - (j * size + from)) (drop (j * size + from) shares))
    → from + b < size → b < length xs
    → get_or ys b 0 ≡ bit_xor (get_or xs b 0) (byte_of size j (from + b) shares)
with_share xs ys shares size from j b e inside h =
    ap (λ zs. get_or zs b 0) e
    ∙ get_d_added xs (take (j * size + size - (j * size + from)) (drop (j * size + from) shares)) b h
    ∙ ap (bit_xor (get_or xs b 0))
    (get_or-take (j * size + size - (j * size + from)) (drop (j * size + from) shares) b 0 (omega arith)
    ∙ get_or-drop (j * size + from) shares b 0 ∙ ap (λ (m : ℕ). get_or shares m 0) (let e : j * size + from + b ≡ j * size + (from + b) = omega arith in e))

pub loop-j-preserved : goal.loop-j-preserved
loop-j-preserved c = λ b h.
    let row : ℕ → ℕ = λ j. at c.args.row.now j / 2 ^ c.args.bit % 2 in
    let d : ℕ → ℕ = λ j. byte_of c.args.size j (c.args.from + b) c.args.shares.now in
    let start : ℕ = get_or c.args.sum.now b 0 in
    elim c.if-coefficient-bit-eq1.branch [
      | then-coefficient-bit-eq1 w ↦
          ap (λ zs. get_or zs b 0) w.sum-is
          ∙ with_share c.loop-j.sum w.add_share.new.sum c.args.shares.now c.args.size c.args.from c.loop-j.j b w.add_share.ensures
          (omega arith) (omega arith)
          ∙ more_with c.loop-j.j row d start (get_or c.loop-j.sum b 0) w.if-coefficient-bit-eq1.true
          (c.type_inv.shares (c.loop-j.j * c.args.size + (c.args.from + b))).fits (c.loop-j.invariant b h)
      | else-coefficient-bit-eq1 w ↦
          ap (λ zs. get_or zs b 0) w.sum-is
          ∙ more_without c.loop-j.j row d start (get_or c.loop-j.sum b 0) (let n = w.if-coefficient-bit-eq1.false in omega arith) (c.loop-j.invariant b h)
    ]

pub returns : goal.returns
returns c = λ b h.
    let e : c.loop-j.j ≡ length c.args.row.now = omega arith in
    c.loop-j.invariant b h
    ∙ ap (λ (n : ℕ). bit_xor (get_or c.args.sum.now b 0)
    (applied n (λ j. at c.args.row.now j / 2 ^ c.args.bit % 2) (λ j. byte_of c.args.size j (c.args.from + b) c.args.shares.now))) e
