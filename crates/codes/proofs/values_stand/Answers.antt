use Rattle.std.proofs.Common.{ℕ, ◌<◌, refl, le_of_suc-le-suc, not-suc-le-zero}
use Rattle.octets.specs.Shares.{share, buffer}
use Rattle.galois.specs.Field.{polynomial_product, reduced, mul, squares, inv}
use Rattle.codes.specs.Over.{over}
use Rattle.codes.specs.Code.{applied, lagrange, polynomial, cauchy}
use Rattle.codes.specs.Words.{codeword}
use Rattle.codes.proofs.values_stand.Goals as goal

-- what holds of 0 and 1 holds below 2
below_two : (P : ℕ → Type 0) → P 0 → P 1 → (j : ℕ) → j < 2 → P j
below_two P a b ℕ.zero h = a
below_two P a b (ℕ.suc ℕ.zero) h = b
below_two P a b (ℕ.suc (ℕ.suc j)) h = absurd (not-suc-le-zero (le_of_suc-le-suc (le_of_suc-le-suc h)))

pub returns : goal.returns
unfolding share buffer polynomial_product reduced mul squares inv over applied lagrange polynomial cauchy codeword
returns c =
    record {
      by_polynomial = refl;
      by_cauchy = refl;
      back_by_polynomial = record { word = record { long = refl; own = refl }; given = below_two _ refl refl };
      back_by_cauchy = record { word = record { long = refl; own = refl }; given = below_two _ refl refl };
    }
