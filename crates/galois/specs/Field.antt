-- The field of 256 elements. A byte is a polynomial over the field of two elements: bit i is the coefficient of x to the power i.
-- Addition, and subtraction too, is `bit_xor`. The product is that of the polynomials, reduced modulo 0x11D, which is the
-- polynomial x^8 + x^4 + x^3 + x^2 + 1.
use Rattle.std.specs.Prelude.{ℕ, zero, suc, ◌+◌, ◌*◌, ◌/◌, ◌%◌, ◌^◌, bit_xor}

-- the coefficient of x to the power i
abbrev pub coefficient : ℕ → ℕ → ℕ
coefficient i p = p / 2 ^ i % 2

-- the product of the polynomials a and b, where b has its n lowest coefficients only: the sum, over those coefficients, of the
-- coefficient times a times that power of x
unfoldable pub polynomial_product : ℕ → ℕ → ℕ → ℕ
polynomial_product zero a b = 0
polynomial_product (suc n) a b = bit_xor (coefficient n b * (a * 2 ^ n)) (polynomial_product n a b)

-- the remainder, modulo 0x11D, of a polynomial of degree below n + 8, by long division: where the highest power is there, that
-- multiple of the modulus which ends in it is subtracted, and so on downwards
unfoldable pub reduced : ℕ → ℕ → ℕ
reduced zero p = p
reduced (suc n) p = reduced n (bit_xor p (coefficient (n + 8) p * (0x11D * 2 ^ n)))

-- the product of two bytes (of larger numbers, that of their low bytes)
unfoldable pub mul : ℕ → ℕ → ℕ
mul a b = reduced 7 (polynomial_product 8 (a % 256) (b % 256))

-- the product of s, its square, the square of that, and so on: n factors
unfoldable pub squares : ℕ → ℕ → ℕ
squares zero s = 1
squares (suc n) s = mul s (squares n (mul s s))

-- the inverse: a to the power 254, which is a^2 a^4 a^8 .. a^128. That of 0 is 0
unfoldable pub inv : ℕ → ℕ
inv a = squares 7 (mul a a)

-- the quotient; by 0 it is 0
abbrev pub div : ℕ → ℕ → ℕ
div a b = mul a (inv b)
