-- The product is linear in each factor, and is what shifting and adding gives: reducing after each shift or once at the end is the same.
use Rattle.std.proofs.Common.{◌≡◌, ℕ, zero, suc, ◌+◌, ◌*◌, ◌/◌, ◌%◌, ◌^◌, ◌<◌, Bool, eqb, sym, refl, ap, ◌∙◌, subst, ap₂, mod-lt, mod-eq_of_lt, arith, lit<, eqb→eq}
use native.Mathlib.Nat.{mod-mod}
use lib.Bits.{bit_xor, xor_mod, xor_shr, xor_lt}
use Rattle.std.proofs.lemmas.Nat.{field_of}
use Rattle.galois.specs.Field.{polynomial_product, reduced, mul}
use Rattle.galois.proofs.Upto.{upto, at}
use Rattle.galois.proofs.Linear.{xor_four, xor_up, xor_bit_of, bit_xor_times, xor_bit, bit_lt, Linear, agree}

-- ---- the definition is linear

product_xor_l : (n a a' b : ℕ) → polynomial_product n (bit_xor a a') b ≡ bit_xor (polynomial_product n a b) (polynomial_product n a' b)
unfolding polynomial_product
product_xor_l zero a a' b = refl
product_xor_l (suc n) a a' b =
    ap₂ bit_xor
    (ap (λ (x : ℕ). b / 2 ^ n % 2 * x) (xor_up n a a') ∙ xor_bit (b / 2 ^ n % 2) (a * 2 ^ n) (a' * 2 ^ n) (mod-lt (b / 2 ^ n) (lit< tt)))
    (product_xor_l n a a' b)
    ∙ xor_four (b / 2 ^ n % 2 * (a * 2 ^ n)) (b / 2 ^ n % 2 * (a' * 2 ^ n)) (polynomial_product n a b) (polynomial_product n a' b)

product_xor_r : (n a b b' : ℕ) → polynomial_product n a (bit_xor b b') ≡ bit_xor (polynomial_product n a b) (polynomial_product n a b')
unfolding polynomial_product
product_xor_r zero a b b' = refl
product_xor_r (suc n) a b b' =
    ap₂ bit_xor
    (ap (λ (x : ℕ). x * (a * 2 ^ n)) (xor_bit_of n b b')
    ∙ bit_xor_times (b / 2 ^ n % 2) (b' / 2 ^ n % 2) (a * 2 ^ n) (mod-lt (b / 2 ^ n) (lit< tt)) (mod-lt (b' / 2 ^ n) (lit< tt)))
    (product_xor_r n a b b')
    ∙ xor_four (b / 2 ^ n % 2 * (a * 2 ^ n)) (b' / 2 ^ n % 2 * (a * 2 ^ n)) (polynomial_product n a b) (polynomial_product n a b')

reduced_xor : (n p q : ℕ) → reduced n (bit_xor p q) ≡ bit_xor (reduced n p) (reduced n q)
unfolding reduced
reduced_xor zero p q = refl
reduced_xor (suc n) p q =
    ap (reduced n)
    (ap (bit_xor (bit_xor p q))
    (ap (λ (x : ℕ). x * m) (xor_bit_of (n + 8) p q)
    ∙ bit_xor_times (p / 2 ^ (n + 8) % 2) (q / 2 ^ (n + 8) % 2) m (mod-lt (p / 2 ^ (n + 8)) (lit< tt)) (mod-lt (q / 2 ^ (n + 8)) (lit< tt)))
    ∙ xor_four p q (p / 2 ^ (n + 8) % 2 * m) (q / 2 ^ (n + 8) % 2 * m))
    ∙ reduced_xor n (bit_xor p (p / 2 ^ (n + 8) % 2 * m)) (bit_xor q (q / 2 ^ (n + 8) % 2 * m))
  where
    m : ℕ
    m = 0x11D * 2 ^ n

pub mul_low_l : (a b : ℕ) → mul (a % 256) b ≡ mul a b
unfolding mul
mul_low_l a b = ap (λ (x : ℕ). reduced 7 (polynomial_product 8 x (b % 256))) (mod-mod a 256)

pub mul_low_r : (a b : ℕ) → mul a (b % 256) ≡ mul a b
unfolding mul
mul_low_r a b = ap (λ (x : ℕ). reduced 7 (polynomial_product 8 (a % 256) x)) (mod-mod b 256)

pub mul_xor_l : (a a' b : ℕ) → mul (bit_xor a a') b ≡ bit_xor (mul a b) (mul a' b)
unfolding mul
mul_xor_l a a' b =
    ap (λ (x : ℕ). reduced 7 (polynomial_product 8 x (b % 256))) (xor_mod a a' 8)
    ∙ ap (reduced 7) (product_xor_l 8 (a % 256) (a' % 256) (b % 256))
    ∙ reduced_xor 7 (polynomial_product 8 (a % 256) (b % 256)) (polynomial_product 8 (a' % 256) (b % 256))

pub mul_xor : (a b b' : ℕ) → mul a (bit_xor b b') ≡ bit_xor (mul a b) (mul a b')
unfolding mul
mul_xor a b b' =
    ap (λ (x : ℕ). reduced 7 (polynomial_product 8 (a % 256) x)) (xor_mod b b' 8)
    ∙ ap (reduced 7) (product_xor_r 8 (a % 256) (b % 256) (b' % 256))
    ∙ reduced_xor 7 (polynomial_product 8 (a % 256) (b % 256)) (polynomial_product 8 (a % 256) (b' % 256))

pub mul_l : (b : ℕ) → Linear (λ a. mul a b)
mul_l b = record { sum = λ x y. mul_xor_l x y b; low = λ x. mul_low_l x b }

pub mul_r : (a : ℕ) → Linear (λ b. mul a b)
mul_r a = record { sum = mul_xor a; low = mul_low_r a }

-- ---- shifting and adding

-- x times a byte, reduced at once
unfoldable pub times_x : ℕ → ℕ
times_x a = bit_xor (a % 128 * 2) (a / 128 % 2 * 0x1D)

-- a times the n low coefficients of b: a by the lowest one, and x times a by the others
unfoldable pub times : ℕ → ℕ → ℕ → ℕ
times zero a b = 0
times (suc n) a b = bit_xor (b % 2 * a) (times n (times_x a) (b / 2))

times_x_xor : (a b : ℕ) → times_x (bit_xor a b) ≡ bit_xor (times_x a) (times_x b)
unfolding times_x
times_x_xor a b =
    ap₂ bit_xor
    (ap (λ (x : ℕ). x * 2) (xor_mod a b 7) ∙ xor_up 1 (a % 128) (b % 128))
    (ap (λ (x : ℕ). x * 29) (xor_bit_of 7 a b)
    ∙ bit_xor_times (a / 128 % 2) (b / 128 % 2) 29 (mod-lt (a / 128) (lit< tt)) (mod-lt (b / 128) (lit< tt)))
    ∙ xor_four (a % 128 * 2) (b % 128 * 2) (a / 128 % 2 * 29) (b / 128 % 2 * 29)

times_xor_l : (n a a' b : ℕ) → times n (bit_xor a a') b ≡ bit_xor (times n a b) (times n a' b)
unfolding times
times_xor_l zero a a' b = refl
times_xor_l (suc n) a a' b =
    ap₂ bit_xor (xor_bit (b % 2) a a' (mod-lt b (lit< tt)))
    (ap (λ (x : ℕ). times n x (b / 2)) (times_x_xor a a') ∙ times_xor_l n (times_x a) (times_x a') (b / 2))
    ∙ xor_four (b % 2 * a) (b % 2 * a') (times n (times_x a) (b / 2)) (times n (times_x a') (b / 2))

times_xor_r : (n a b b' : ℕ) → times n a (bit_xor b b') ≡ bit_xor (times n a b) (times n a b')
unfolding times
times_xor_r zero a b b' = refl
times_xor_r (suc n) a b b' =
    ap₂ bit_xor
    (ap (λ (x : ℕ). x * a) (xor_mod b b' 1) ∙ bit_xor_times (b % 2) (b' % 2) a (mod-lt b (lit< tt)) (mod-lt b' (lit< tt)))
    (ap (times n (times_x a)) (xor_shr b b' 1) ∙ times_xor_r n (times_x a) (b / 2) (b' / 2))
    ∙ xor_four (b % 2 * a) (b' % 2 * a) (times n (times_x a) (b / 2)) (times n (times_x a) (b' / 2))

pub times_x_lt : (a : ℕ) → times_x a < 256
unfolding times_x
times_x_lt a = xor_lt 8 (a % 128 * 2) (a / 128 % 2 * 29) (omega arith) (omega arith)

times_lt : (n a b : ℕ) → a < 256 → times n a b < 256
unfolding times
times_lt zero a b h = lit< tt
times_lt (suc n) a b h =
    xor_lt 8 (b % 2 * a) (times n (times_x a) (b / 2)) (bit_lt (b % 2) a (mod-lt b (lit< tt)) h) (times_lt n (times_x a) (b / 2) (times_x_lt a))

shifted : ℕ → ℕ → ℕ
shifted a b = times 8 (a % 256) (b % 256)

shifted_l : (b : ℕ) → Linear (λ a. shifted a b)
unfolding shifted
shifted_l b =
    record {
      sum = λ x y. ap (λ (z : ℕ). times 8 z (b % 256)) (xor_mod x y 8) ∙ times_xor_l 8 (x % 256) (y % 256) (b % 256);
      low = λ x. ap (λ (z : ℕ). times 8 z (b % 256)) (mod-mod x 256);
    }

shifted_r : (a : ℕ) → Linear (λ b. shifted a b)
unfolding shifted
shifted_r a =
    record {
      sum = λ x y. ap (times 8 (a % 256)) (xor_mod x y 8) ∙ times_xor_r 8 (a % 256) (x % 256) (y % 256);
      low = λ x. ap (times 8 (a % 256)) (mod-mod x 256);
    }

same_test : ℕ → ℕ → Bool
same_test i j = eqb (mul (2 ^ i) (2 ^ j)) (shifted (2 ^ i) (2 ^ j))

same_basis : (i : ℕ) → i < 8 → (j : ℕ) → j < 8 → mul (2 ^ i) (2 ^ j) ≡ shifted (2 ^ i) (2 ^ j)
unfolding same_test upto mul polynomial_product reduced shifted times times_x
same_basis i hi j hj =
    eqb→eq (mul (2 ^ i) (2 ^ j)) (shifted (2 ^ i) (2 ^ j)) (at (λ k. same_test i k) 8 (at (λ m. upto (λ k. same_test m k) 8) 8 tt i hi) j hj)

mul_shifted : (a b : ℕ) → mul a b ≡ shifted a b
mul_shifted a b =
    agree (λ a. mul a b) (λ a. shifted a b) (mul_l b) (shifted_l b)
    (λ i hi. agree (λ b. mul (2 ^ i) b) (λ b. shifted (2 ^ i) b) (mul_r (2 ^ i)) (shifted_r (2 ^ i)) (same_basis i hi) b) a

-- the product of two bytes, by shifting and adding
pub times_mul : (a b : ℕ) → a < 256 → b < 256 → times 8 a b ≡ mul a b
unfolding shifted
times_mul a b ha hb = sym (mul_shifted a b ∙ ap₂ (times 8) (mod-eq_of_lt ha) (mod-eq_of_lt hb))

pub mul_byte : (a b : ℕ) → mul a b < 256
unfolding shifted
mul_byte a b = subst (λ (x : ℕ). x < 256) (sym (mul_shifted a b)) (times_lt 8 (a % 256) (b % 256) (mod-lt a (lit< tt)))

times_x_low : Linear times_x
unfolding times_x
times_x_low =
    record {
      sum = times_x_xor;
      low = λ x.
          let a : x % 256 % 128 ≡ x % 128 = omega arith in
          let b : x % 256 / 128 % 2 ≡ x / 128 % 2 = ap (λ (z : ℕ). z % 2) (field_of x 1 7) ∙ mod-mod (x / 128) 2 in
          ap₂ (λ (p q : ℕ). bit_xor (p * 2) (q * 29)) a b;
    }

two_test : ℕ → Bool
two_test i = eqb (mul 2 (2 ^ i)) (times_x (2 ^ i))

two_basis : (i : ℕ) → i < 8 → mul 2 (2 ^ i) ≡ times_x (2 ^ i)
unfolding two_test upto mul polynomial_product reduced times_x
two_basis i hi = eqb→eq (mul 2 (2 ^ i)) (times_x (2 ^ i)) (at two_test 8 tt i hi)

-- x times a number is x times its low byte
pub mul_two : (a : ℕ) → mul 2 a ≡ times_x a
mul_two a = agree (λ a. mul 2 a) times_x (mul_r 2) times_x_low two_basis a
