-- The numbers of cells on lines.
use Rattle.std.proofs.Common.{◌≡◌, ℕ, ◌+◌, ◌-◌, ◌*◌, ◌<◌, ◌≤◌, ltb, ap, ◌∙◌, inl, inr, arith}
use Rattle.std.proofs.lemmas.Nat.{mul-add-lt}
use Rattle.std.proofs.lemmas.Bool.{cases_lt, lt-ltb, le-ltb, cond-true, cond-false}
use Rattle.header.specs.declared.cell.Axis.{Axis}
use Rattle.header.specs.declared.cell.Axis.TheVariants.{Row, Column}
use Rattle.header.specs.Lines.{line_of, place_on}
use Rattle.header.specs.Sizes.{cell_on, line_number_in}

pub on_row : (w n p : ℕ) → n < w → cell_on w n p ≡ n * w + p
unfolding cell_on
on_row w n p l = cond-true (ltb n w) _ _ (lt-ltb n w l)

pub on_column : (w n p : ℕ) → w ≤ n → cell_on w n p ≡ p * w + (n - w)
unfolding cell_on
on_column w n p l = cond-false (ltb n w) _ _ (le-ltb n w l)

-- the cells of lines are cells of the square
pub on_below : (w n p : ℕ) → n < 2 * w → p < w → cell_on w n p < w * w
on_below w n p l h =
    elim (cases_lt n w) [
      | inl a ↦ omega (arith, on_row w n p a, mul-add-lt n w p w a h)
      | inr a ↦ omega (arith, on_column w n p a, mul-add-lt p w (n - w) w h (omega arith))
    ]

-- ---- the lines of a cell

pub line_in : (axis : Axis) (w r c : ℕ) → r < w → c < w → line_number_in w axis (line_of axis r c) < 2 * w
line_in Row w r c a b = omega arith
line_in Column w r c a b = omega arith

pub place_in : (axis : Axis) (w r c : ℕ) → r < w → c < w → place_on axis r c < w
place_in Row w r c a b = b
place_in Column w r c a b = a

-- on both of its lines a cell has the same number
pub cell_on_lem : (axis : Axis) (w r c : ℕ) → r < w → cell_on w (line_number_in w axis (line_of axis r c)) (place_on axis r c) ≡ r * w + c
cell_on_lem Row w r c a = on_row w r c a
cell_on_lem Column w r c a = on_column w (w + c) r (omega arith) ∙ ap (λ i. r * w + i) (omega arith)
