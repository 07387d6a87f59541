-- The extension by rows and columns, and by columns and rows.
use Rattle.std.proofs.Common.{ℕ, sym, refl, ◌∙◌}
use lib.Bits.{bit_xor}
use Rattle.galois.specs.Field.{polynomial_product, reduced, mul, squares, inv}
use Rattle.codes.specs.Over.{over}
use Rattle.codes.specs.Code.{applied, symbol, lagrange, polynomial}
use Rattle.codes.specs.Grid.{GridLaw, SquareValues}
use Rattle.codes.proofs.Ring as ring
use Rattle.codes.proofs.Bytes.{bytes}

pub grid_law : GridLaw
unfolding applied
grid_law T k d r c =
    ring.over_same bit_xor 0 k (λ i. mul (T k r i) (symbol T k (d i) c)) (λ i. over bit_xor 0 k (λ j. mul (T k r i) (mul (T k c j) (d i j))))
    (λ i h. ring.sum_scale ℕ bytes (T k r i) k (λ j. mul (T k c j) (d i j)))
    ∙ ring.sum_swap ℕ bytes k k (λ i j. mul (T k r i) (mul (T k c j) (d i j)))
    ∙ ring.over_same bit_xor 0 k (λ j. over bit_xor 0 k (λ i. mul (T k r i) (mul (T k c j) (d i j)))) (λ j. mul (T k c j) (symbol T k (λ i. d i j) r))
    (λ j h.
    ring.over_same bit_xor 0 k (λ i. mul (T k r i) (mul (T k c j) (d i j))) (λ i. mul (T k c j) (mul (T k r i) (d i j)))
    (λ i hi. ring.mul_left_comm ℕ bytes (T k r i) (T k c j) (d i j))
    ∙ sym (ring.sum_scale ℕ bytes (T k c j) k (λ i. mul (T k r i) (d i j))))

pub square_values : SquareValues
unfolding polynomial_product reduced mul squares inv over applied lagrange polynomial
square_values = ((refl, refl, refl, refl), (refl, refl, refl, refl), (refl, refl, refl, refl), (refl, refl, refl, refl))
