-- The laws of the field. Where it can be, each is a law of all numbers and not of bytes alone, since a product is that of the low bytes.
use Rattle.std.specs.Prelude.{◌≡◌, ℕ, ◌<◌, bit_xor}
use Rattle.galois.specs.Field.{mul, inv, div}

pub record FieldLaws : Type 0 where
  -- products and inverses are bytes
  pub mul_byte : (a b : ℕ) → mul a b < 256
  pub inv_byte : (a : ℕ) → inv a < 256
  pub mul_comm : (a b : ℕ) → mul a b ≡ mul b a
  pub mul_assoc : (a b c : ℕ) → mul (mul a b) c ≡ mul a (mul b c)
  pub mul_xor : (a b c : ℕ) → mul a (bit_xor b c) ≡ bit_xor (mul a b) (mul a c)
  pub one-mul : (a : ℕ) → a < 256 → mul 1 a ≡ a
  pub mul_inv : (a : ℕ) → 0 < a → a < 256 → mul a (inv a) ≡ 1
  pub no_divisor : (a b : ℕ) → 0 < a → a < 256 → b < 256 → mul a b ≡ 0 → b ≡ 0
  -- where there is no inverse and no quotient
  pub inv_zero : inv 0 ≡ 0
  pub div_zero : (a : ℕ) → div a 0 ≡ 0
  -- two worked values: 1/2 and 1/3
  pub half : div 1 2 ≡ 142
  pub third : div 1 3 ≡ 244
