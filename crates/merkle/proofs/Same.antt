-- A tree depends on the leaves below it alone.
use Rattle.std.proofs.Common.{◌≡◌, ℕ, zero, suc, ◌+◌, ◌*◌, ◌^◌, ◌<◌, ◌≤◌, ◌++◌, ap, ◌∙◌, mul_assoc, mul-le-mul_left, pow-suc, arith}
use Rattle.std.proofs.lemmas.Nat.{pow-add}
use Rattle.std.specs.List.{range_with_len, flat_map}
use Rattle.octets.proofs.Joins.{joined_same}
use Rattle.merkle.specs.Tree.{node}
use Rattle.merkle.specs.Climb.{Node}
use Rattle.merkle.specs.Layout.{level, levels_from, tree_layout}

pub node_same : {N : Type 0} (join : N → N → N) (leaf leaf' : ℕ → N) (d i : ℕ) → ((j : ℕ) → j < 2 ^ d * (i + 1) → leaf j ≡ leaf' j) → node join leaf d i ≡ node join leaf' d i
unfolding node
node_same join leaf leaf' zero i h = h i (omega arith)
node_same join leaf leaf' (suc d) i h =
    let n = 2 ^ d in
    let p : 2 ^ suc d * (i + 1) ≡ n * (2 * (i + 1)) = ap (λ m. m * (i + 1)) (pow-suc 2 d) ∙ mul_assoc n 2 (i + 1) in
    let q : n * (2 * i + 1) ≤ n * (2 * (i + 1)) = mul-le-mul_left n (omega arith) in
    let r : n * (2 * i + 1 + 1) ≡ n * (2 * (i + 1)) = ap (λ m. n * m) (omega arith) in
    ap (λ x. join x (node join leaf d (2 * i + 1))) (node_same join leaf leaf' d (2 * i) (λ j l. h j (omega arith)))
    ∙ ap (join (node join leaf' d (2 * i))) (node_same join leaf leaf' d (2 * i + 1) (λ j l. h j (omega arith)))

module _ (join : Node → Node → Node) (leaf leaf' : ℕ → Node) where
  levels_same : (k h : ℕ) → ((j : ℕ) → j < 2 ^ (h + k) → leaf j ≡ leaf' j) → levels_from join leaf h k ≡ levels_from join leaf' h k
  unfolding levels_from level
  levels_same zero h e = node_same join leaf leaf' h 0 (λ j l. e j (omega (arith, pow-add 2 h 0)))
  levels_same (suc k) h e =
      let m : 2 ^ (h + suc k) ≡ 2 ^ h * 2 ^ suc k = pow-add 2 h (suc k) in
      let n : 2 ^ (h + 1 + k) ≡ 2 ^ (h + suc k) = ap (λ i. 2 ^ i) (omega arith) in
      ap (λ x. x ++ levels_from join leaf (h + 1) k)
      (joined_same (node join leaf h) (node join leaf' h) 0 (2 ^ suc k) (λ i l.
      node_same join leaf leaf' h i (λ j b.
      let q : 2 ^ h * (i + 1) ≤ 2 ^ h * 2 ^ suc k = mul-le-mul_left (2 ^ h) (omega arith) in
      e j (omega arith))))
      ∙ ap (λ x. flat_map (node join leaf' h) (range_with_len 0 (2 ^ suc k)) ++ x) (levels_same k (h + 1) (λ j l. e j (omega arith)))

  pub layout_same : (d : ℕ) → ((j : ℕ) → j < 2 ^ d → leaf j ≡ leaf' j) → tree_layout join d leaf ≡ tree_layout join d leaf'
  layout_same d e = let z : 2 ^ (0 + d) ≡ 2 ^ d = ap (λ i. 2 ^ i) (omega arith) in levels_same d 0 (λ j l. e j (omega arith))
