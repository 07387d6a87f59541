-- What follows of the lengths of a block from an allowed k and an allowed share size.
use Rattle.std.proofs.Common.{◌≡◌, ℕ, ◌+◌, ◌-◌, ◌*◌, ◌^◌, ◌<◌, ◌≤◌, Bool, true, ◌||◌, eqb, sym, refl, ap, ◌∙◌, subst, inl, inr, pow-suc, add-one, arith}
use Rattle.std.proofs.lemmas.Nat.{mul-le, mul-add-lt}
use Rattle.std.proofs.lemmas.Bool.{or_cases, eqb-true, cases_lt, cases_eq}
use Rattle.std.proofs.Math.Pow.{pow-lt}
use Rattle.std.proofs.lemmas.Bool.Decides.{nat_tests}
use Rattle.erasure.specs.Limits.{ok_width, ok_size}
use Rattle.erasure.proofs.Bounds.{width_most, width_some, size_most, size_some}
use Rattle.header.specs.Fields.{Fields}
use Rattle.header.specs.Sizes.{width, depth_of, cell_count, square_len, lengths_of, has_cell, cell_number}
use Rattle.header.specs.declared.lengths.Lengths.{Lengths}
use Rattle.hash.specs.Digests.{digest_len}

-- an allowed k and an allowed share size
pub record Allowed (h : Fields) : Type 0 where
  pub wide : ok_width h.k ≡ true
  pub sized : ok_size h.s ≡ true

-- what holds of all six k holds of an allowed one
pub width_cases : (k : ℕ) → ok_width k ≡ true → (P : ℕ → Type 0) → P 1 → P 2 → P 4 → P 8 → P 16 → P 32 → P k
unfolding ok_width
width_cases k w P a b c d e f =
    one 1 a (λ w. one 2 b (λ w. one 4 c (λ w. one 8 d (λ w. one 16 e (λ w. subst P (sym (eqb-true k 32 w)) f) w) w) w) w) w
  where
    one : (n : ℕ) {r : Bool} → P n → (r ≡ true → P k) → (eqb k n || r) ≡ true → P k
    one n {r} p rest w = elim (or_cases (eqb k n) r w) [ inl t ↦ subst P (sym (eqb-true k n t)) p | inr t ↦ rest t ]

pub depth_most : (k : ℕ) → depth_of k ≤ 6
unfolding depth_of
depth_most k = grind (arith, nat_tests)

pub depth_some : (k : ℕ) → 1 ≤ depth_of k
unfolding depth_of
depth_some k = grind (arith, nat_tests)

-- the lines' trees have as many leaves as a line has cells
pub depth_power : (k : ℕ) → ok_width k ≡ true → 2 ^ depth_of k ≡ 2 * k
unfolding depth_of
depth_power k w = width_cases k w (λ k. 2 ^ depth_of k ≡ 2 * k) refl refl refl refl refl refl

-- so the largest power of two that is no larger than k is one level below them
pub depth_by_power : (k r : ℕ) → ok_width k ≡ true → 2 ^ r ≤ k → k < 2 * 2 ^ r → r + 1 ≡ depth_of k
depth_by_power k r w low high =
    let whole : 2 ^ depth_of k ≡ 2 * k = depth_power k w in
    let one : 2 ^ (r + 1) ≡ 2 ^ r * 2 = ap (λ i. 2 ^ i) (add-one r) ∙ pow-suc 2 r in
    let two : 2 ^ (r + 1 + 1) ≡ 2 ^ (r + 1) * 2 = ap (λ i. 2 ^ i) (add-one (r + 1)) ∙ pow-suc 2 (r + 1) in
    elim (cases_lt (depth_of k) (r + 1)) [
      | inl l ↦ let p : 2 ^ depth_of k < 2 ^ (r + 1) = pow-lt l in absurd (omega arith)
      | inr m ↦
          elim (cases_eq (r + 1) (depth_of k)) [
            | inl e ↦ e
            | inr d ↦
                elim (cases_eq (r + 1 + 1) (depth_of k)) [
                  | inl e ↦ let p : 2 ^ (r + 1 + 1) ≡ 2 ^ depth_of k = ap (λ i. 2 ^ i) e in absurd (omega arith)
                  | inr n ↦
                      let l : r + 1 + 1 < depth_of k = omega arith in
                      let p : 2 ^ (r + 1 + 1) < 2 ^ depth_of k = pow-lt l in absurd (omega arith)
                ]
          ]
    ]

-- the data tree has twice as many
pub depth_above : (k : ℕ) → ok_width k ≡ true → 2 ^ (depth_of k + 1) ≡ 2 * (2 * k)
depth_above k w =
    let twice : 2 ^ (depth_of k + 1) ≡ 2 ^ depth_of k * 2 = ap (λ i. 2 ^ i) (add-one (depth_of k)) ∙ pow-suc 2 (depth_of k) in
    omega (arith, depth_power k w)

pub cells_most : (h : Fields) → ok_width h.k ≡ true → cell_count h ≤ 4096
cells_most h w = let m = width_most h.k w in mul-le (width h) (width h) 64 64 (omega arith) (omega arith)

pub square_most : (h : Fields) → Allowed h → square_len h ≤ 2097152
square_most h a = mul-le (cell_count h) h.s 4096 512 (cells_most h a.wide) (size_most h.s a.sized)

-- the number of a cell that is inside
pub number_inside : (h : Fields) (r c : ℕ) → has_cell h r c ≡ true → cell_number h r c < cell_count h
number_inside h r c e = mul-add-lt r (width h) c (width h) (grind (arith, nat_tests)) (grind (arith, nat_tests))

pub number_low : (h : Fields) → ok_width h.k ≡ true → (r c : ℕ) → has_cell h r c ≡ true → cell_number h r c < 4096
number_low h w r c e = omega (arith, number_inside h r c e, cells_most h w)

-- what a caller needs of the lengths of a block
pub record Measured (m : Lengths) : Type 0 where
  pub wide : m.width ≤ 64
  pub some : 2 ≤ m.width
  pub deep : m.depth ≤ 6
  pub power : m.width ≡ 2 ^ m.depth
  pub above : 2 ^ (m.depth + 1) ≡ 2 * m.width
  pub sized : m.share ≤ 512
  pub held : 1 ≤ m.share
  pub cells : m.cells ≡ m.width * m.width
  pub few : m.width * m.width ≤ 4096
  pub square : m.square ≡ m.width * m.width * m.share
  pub lines : m.lines ≡ 2 * m.width
  pub roots : m.roots ≡ digest_len * (2 * m.width)
  pub axis_tree : m.axis_tree ≡ digest_len * (2 * m.width - 1)
  pub data_tree : m.data_tree ≡ digest_len * (2 * (2 * m.width) - 1)
  pub axis_path : m.axis_path ≡ digest_len * m.depth
  pub path : m.path ≡ digest_len * (2 * m.depth + 1)

pub measured : (h : Fields) (m : Lengths) → ok_width h.k ≡ true → ok_size h.s ≡ true → m ≡ lengths_of h → Measured m
measured h m w z e =
    let width_is : m.width ≡ 2 * h.k = ap (λ l. l.width) e in
    let depth_is : m.depth ≡ depth_of h.k = ap (λ l. l.depth) e in
    let share_is : m.share ≡ h.s = ap (λ l. l.share) e in
    let power-is : m.width ≡ 2 ^ m.depth = width_is ∙ sym (depth_power h.k w) ∙ ap (λ i. 2 ^ i) (sym depth_is) in
    let twice : 2 ^ (m.depth + 1) ≡ 2 ^ m.depth * 2 = ap (λ i. 2 ^ i) (add-one m.depth) ∙ pow-suc 2 m.depth in
    record {
      wide = omega (arith, width_most h.k w);
      some = omega (arith, width_some h.k w);
      deep = omega (arith, depth_most h.k);
      power = power-is;
      above = omega arith;
      sized = omega (arith, size_most h.s z);
      held = omega (arith, size_some h.s z);
      cells = ap (λ l. l.cells) e ∙ sym (ap (λ l. l.width * l.width) e);
      few = omega (arith, ap (λ l. l.width * l.width) e, cells_most h w);
      square = ap (λ l. l.square) e ∙ sym (ap (λ l. l.width * l.width * l.share) e);
      lines = omega (arith, ap (λ l. l.lines) e);
      roots = omega (arith, ap (λ l. l.roots) e);
      axis_tree = omega (arith, ap (λ l. l.axis_tree) e);
      data_tree = omega (arith, ap (λ l. l.data_tree) e);
      axis_path = omega (arith, ap (λ l. l.axis_path) e);
      path = omega (arith, ap (λ l. l.path) e);
    }
