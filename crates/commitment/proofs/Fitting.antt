-- What follows of the lengths of a block's square and of its roots.
use Rattle.std.proofs.Common.{◌≡◌, ℕ, ◌+◌, ◌*◌, ◌^◌, ◌≤◌, true, sym, ap, ◌∙◌, pow-suc, add-one, arith}
use Rattle.std.proofs.lemmas.Bool.{and_from, le-leb, eq-eqb}
use Rattle.hash.specs.Digests.{digest_len}
use Rattle.erasure.specs.Limits.{ok_width}
use Rattle.header.specs.declared.header.Header.{Header}
use Rattle.header.specs.declared.lengths.Lengths.{Lengths}
use Rattle.header.specs.Fields.{Fields, fields_of}
use Rattle.header.specs.Sizes.{depth_of, lengths_of, roots_len, square_len}
use Rattle.header.proofs.Measures.{Measured, measured, depth_power, depth_most}
use Rattle.commitment.specs.declared.cells.Cells.{Cells}
use Rattle.commitment.specs.Values.{root_fits}

pub cells_measured : (h : Header) (m : Lengths) → m ≡ lengths_of (fields_of h) → Measured m
cells_measured h m e = measured (fields_of h) m h.width h.size e

pub cells_long : (h : Header) (m : Lengths) (n : ℕ) → m ≡ lengths_of (fields_of h) → n ≡ square_len (fields_of h) → n ≡ m.width * m.width * m.share
cells_long h m n e l = l ∙ sym (ap (λ k. k.width * k.width * k.share) e)

-- the trees of a line and of the roots, and the roots, are no longer than those of the largest square
pub axis_tree_most : (c : Cells) → c.lengths.axis_tree ≤ 4064
axis_tree_most c = let m = cells_measured c.header.now c.lengths c.measured in omega (arith, m.axis_tree, m.wide)

pub data_tree_most : (c : Cells) → c.lengths.data_tree ≤ 8160
data_tree_most c = let m = cells_measured c.header.now c.lengths c.measured in omega (arith, m.data_tree, m.wide)

pub roots_most : (c : Cells) → c.lengths.roots ≤ 4096
roots_most c = let m = cells_measured c.header.now c.lengths c.measured in omega (arith, m.roots, m.wide)

-- roots of a block's length have a data root
pub roots_fit : (h : Fields) (d n : ℕ) → ok_width h.k ≡ true → d ≡ depth_of h.k → n ≡ roots_len h → root_fits (d + 1) digest_len n ≡ true
roots_fit h d n w e l =
    let power : 2 ^ (d + 1) ≡ 2 ^ depth_of h.k * 2 = ap (λ i. 2 ^ i) (add-one d) ∙ pow-suc 2 d ∙ ap (λ i. 2 ^ i * 2) e in
    let wide = depth_power h.k w in
    let size : n ≡ 2 ^ (d + 1) * digest_len = omega arith in
    and_from _ _ (le-leb (d + 1) 7 (omega (arith, depth_most h.k))) (and_from _ _ (le-leb digest_len 4096 (omega arith)) (eq-eqb n (2 ^ (d + 1) * digest_len) size))
