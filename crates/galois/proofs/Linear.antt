-- Functions that are linear over the field of two elements and settled by the low byte: two that agree at the eight powers of x agree.
use Rattle.std.proofs.Common.{◌≡◌, ℕ, zero, suc, ◌*◌, ◌/◌, ◌%◌, ◌^◌, ◌<◌, sym, ap, ◌∙◌, ap₂, le_of_suc-le-suc, not-suc-le-zero, add-zero, mod-lt, one-mul, zero-mul, one-add, arith, lit<, pow_pos}
use native.Mathlib.Nat.{mod-one}
use lib.Pow.{mod-pow-add}
use lib.Bits.{bit_xor, xor_assoc, xor_comm, xor_self, xor_zero_r, xor_block, xor_shifted, xor_mod, xor_shr}

-- ---- xor

pub xor_left_comm : (a b c : ℕ) → bit_xor a (bit_xor b c) ≡ bit_xor b (bit_xor a c)
xor_left_comm a b c = sym (xor_assoc a b c) ∙ ap (λ (x : ℕ). bit_xor x c) (xor_comm a b) ∙ xor_assoc b a c

pub xor_four : (a b c d : ℕ) → bit_xor (bit_xor a b) (bit_xor c d) ≡ bit_xor (bit_xor a c) (bit_xor b d)
xor_four a b c d =
    xor_assoc a b (bit_xor c d) ∙ ap (bit_xor a) (xor_left_comm b c d) ∙ sym (xor_assoc a c (bit_xor b d))

-- moved up by n places
pub xor_up : (n a b : ℕ) → bit_xor a b * 2 ^ n ≡ bit_xor (a * 2 ^ n) (b * 2 ^ n)
xor_up n a b =
    sym (ap₂ bit_xor (sym (add-zero (a * 2 ^ n))) (sym (add-zero (b * 2 ^ n))) ∙ xor_block n a b 0 0 (pow_pos n) (pow_pos n)
    ∙ add-zero (bit_xor a b * 2 ^ n))

-- a bit of a sum
pub xor_bit_of : (n a b : ℕ) → bit_xor a b / 2 ^ n % 2 ≡ bit_xor (a / 2 ^ n % 2) (b / 2 ^ n % 2)
xor_bit_of n a b = ap (λ (x : ℕ). x % 2) (xor_shr a b n) ∙ xor_mod (a / 2 ^ n) (b / 2 ^ n) 1

-- a bit times a number, in the bit and in the number
pub bit_xor_times : (p q c : ℕ) → p < 2 → q < 2 → bit_xor p q * c ≡ bit_xor (p * c) (q * c)
bit_xor_times zero q c hp hq = sym (ap (λ (x : ℕ). bit_xor x (q * c)) (zero-mul c))
bit_xor_times (suc zero) zero c hp hq = sym (ap (bit_xor (1 * c)) (zero-mul c) ∙ xor_zero_r (1 * c))
bit_xor_times (suc zero) (suc zero) c hp hq = zero-mul c ∙ sym (xor_self (1 * c))
bit_xor_times (suc zero) (suc (suc q)) c hp hq = absurd (not-suc-le-zero (le_of_suc-le-suc (le_of_suc-le-suc hq)))
bit_xor_times (suc (suc p)) q c hp hq = absurd (not-suc-le-zero (le_of_suc-le-suc (le_of_suc-le-suc hp)))

pub xor_bit : (p a b : ℕ) → p < 2 → p * bit_xor a b ≡ bit_xor (p * a) (p * b)
xor_bit zero a b hp = zero-mul (bit_xor a b) ∙ sym (ap₂ bit_xor (zero-mul a) (zero-mul b))
xor_bit (suc zero) a b hp = one-mul (bit_xor a b) ∙ sym (ap₂ bit_xor (one-mul a) (one-mul b))
xor_bit (suc (suc p)) a b hp = absurd (not-suc-le-zero (le_of_suc-le-suc (le_of_suc-le-suc hp)))

pub bit_lt : (p a : ℕ) → p < 2 → a < 256 → p * a < 256
bit_lt zero a hp ha = rw zero-mul (lit< tt)
bit_lt (suc zero) a hp ha = rw one-mul ha
bit_lt (suc (suc p)) a hp ha = absurd (not-suc-le-zero (le_of_suc-le-suc (le_of_suc-le-suc hp)))

-- ---- linear functions

pub record Linear (f : ℕ → ℕ) : Type 0 where
  pub sum : (x y : ℕ) → f (bit_xor x y) ≡ bit_xor (f x) (f y)
  pub low : (x : ℕ) → f (x % 256) ≡ f x

pub linear_zero : (f : ℕ → ℕ) → Linear f → f 0 ≡ 0
linear_zero f l = l.sum 0 0 ∙ xor_self (f 0)

pub after : (f g : ℕ → ℕ) → Linear f → Linear g → Linear (λ x. f (g x))
after f g lf lg =
    record { sum = λ x y. ap f (lg.sum x y) ∙ lf.sum (g x) (g y); low = λ x. ap f (lg.low x) }

module _ (f g : ℕ → ℕ) (lf : Linear f) (lg : Linear g) where
  on_bit : (p n : ℕ) → p < 2 → f (2 ^ n) ≡ g (2 ^ n) → f (p * 2 ^ n) ≡ g (p * 2 ^ n)
  on_bit zero n hp e = rw zero-mul (linear_zero f lf ∙ sym (linear_zero g lg))
  on_bit (suc zero) n hp e = rw one-mul e
  on_bit (suc (suc p)) n hp e = absurd (not-suc-le-zero (le_of_suc-le-suc (le_of_suc-le-suc hp)))

  on_low : (n : ℕ) → ((i : ℕ) → i < n → f (2 ^ i) ≡ g (2 ^ i)) → (x : ℕ) → f (x % 2 ^ n) ≡ g (x % 2 ^ n)
  on_low zero h x = rw mod-one (linear_zero f lf ∙ sym (linear_zero g lg))
  on_low (suc n) h x =
      let cut : x % 2 ^ suc n ≡ bit_xor (x / 2 ^ n % 2 * 2 ^ n) (x % 2 ^ n) =
      ap (λ (m : ℕ). x % 2 ^ m) (sym (one-add n)) ∙ mod-pow-add x 1 n ∙ sym (xor_shifted (x / 2 ^ n % 2) n (x % 2 ^ n) (mod-lt x (pow_pos n))) in
      ap f cut ∙ lf.sum (x / 2 ^ n % 2 * 2 ^ n) (x % 2 ^ n)
      ∙ ap₂ bit_xor (on_bit (x / 2 ^ n % 2) n (mod-lt (x / 2 ^ n) (lit< tt)) (h n (omega arith))) (on_low n (λ i k. h i (omega arith)) x)
      ∙ sym (ap g cut ∙ lg.sum (x / 2 ^ n % 2 * 2 ^ n) (x % 2 ^ n))

  pub agree : ((i : ℕ) → i < 8 → f (2 ^ i) ≡ g (2 ^ i)) → (x : ℕ) → f x ≡ g x
  agree h x = sym (lf.low x) ∙ on_low 8 h x ∙ lg.low x
