-- Worked values of the definitions, in shares of one byte.
use Rattle.std.specs.Prelude.{◌≡◌, [], ◌∷◌}
use Rattle.codes.specs.Code.{polynomial, cauchy}
use Rattle.codes.specs.Words.{codeword, Through}

pub record Values : Type 0 where
  pub by_polynomial : codeword polynomial 2 1 (1 ∷ 2 ∷ []) ≡ 1 ∷ 2 ∷ 7 ∷ 4 ∷ []
  pub by_cauchy : codeword cauchy 2 1 (1 ∷ 2 ∷ []) ≡ 1 ∷ 2 ∷ 123 ∷ 245 ∷ []
  -- 7 and 4 at the places 2 and 3 recover 1, 2, 7, 4; by the Cauchy code 123 and 245 recover 1, 2, 123, 245
  pub back_by_polynomial : Through polynomial 2 1 (2 ∷ 3 ∷ []) (7 ∷ 4 ∷ []) (1 ∷ 2 ∷ 7 ∷ 4 ∷ [])
  pub back_by_cauchy : Through cauchy 2 1 (2 ∷ 3 ∷ []) (123 ∷ 245 ∷ []) (1 ∷ 2 ∷ 123 ∷ 245 ∷ [])
