-- The field's laws: those of the product are computed at the powers of x, and follow elsewhere since it is linear.
use Rattle.std.proofs.Common.{◌≡◌, ℕ, zero, suc, ◌^◌, ◌<◌, Bool, eqb, sym, refl, ap, ◌∙◌, le_of_suc-le-suc, not-suc-le-zero, eqb→eq}
use Rattle.galois.specs.Field.{polynomial_product, reduced, mul, squares, inv, div}
use Rattle.galois.specs.Laws.{FieldLaws}
use Rattle.galois.proofs.Upto.{upto, at}
use Rattle.galois.proofs.Linear.{linear_zero, after, agree}
use Rattle.galois.proofs.Steps.{mul_l, mul_r, mul_byte, mul_xor}

-- ---- commutative

comm_test : ℕ → ℕ → Bool
comm_test i j = eqb (mul (2 ^ i) (2 ^ j)) (mul (2 ^ j) (2 ^ i))

comm_basis : (i : ℕ) → i < 8 → (j : ℕ) → j < 8 → mul (2 ^ i) (2 ^ j) ≡ mul (2 ^ j) (2 ^ i)
unfolding comm_test upto mul polynomial_product reduced
comm_basis i hi j hj =
    eqb→eq (mul (2 ^ i) (2 ^ j)) (mul (2 ^ j) (2 ^ i)) (at (λ k. comm_test i k) 8 (at (λ m. upto (λ k. comm_test m k) 8) 8 tt i hi) j hj)

pub mul_comm : (a b : ℕ) → mul a b ≡ mul b a
mul_comm a b =
    agree (λ a. mul a b) (λ a. mul b a) (mul_l b) (mul_r b)
    (λ i hi. agree (λ b. mul (2 ^ i) b) (λ b. mul b (2 ^ i)) (mul_r (2 ^ i)) (mul_l (2 ^ i)) (comm_basis i hi) b) a

-- ---- associative

assoc_test : ℕ → ℕ → ℕ → Bool
assoc_test i j k = eqb (mul (mul (2 ^ i) (2 ^ j)) (2 ^ k)) (mul (2 ^ i) (mul (2 ^ j) (2 ^ k)))

assoc_basis : (i : ℕ) → i < 8 → (j : ℕ) → j < 8 → (k : ℕ) → k < 8
    → mul (mul (2 ^ i) (2 ^ j)) (2 ^ k) ≡ mul (2 ^ i) (mul (2 ^ j) (2 ^ k))
unfolding assoc_test upto mul polynomial_product reduced
assoc_basis i hi j hj k hk =
    eqb→eq (mul (mul (2 ^ i) (2 ^ j)) (2 ^ k)) (mul (2 ^ i) (mul (2 ^ j) (2 ^ k)))
    (at (λ k. assoc_test i j k) 8
    (at (λ j. upto (λ k. assoc_test i j k) 8) 8
    (at (λ i. upto (λ j. upto (λ k. assoc_test i j k) 8) 8) 8 tt i hi) j hj) k hk)

pub mul_assoc : (a b c : ℕ) → mul (mul a b) c ≡ mul a (mul b c)
mul_assoc a b c =
    agree (λ a. mul (mul a b) c) (λ a. mul a (mul b c)) (after (λ x. mul x c) (λ x. mul x b) (mul_l c) (mul_l b)) (mul_l (mul b c))
    (λ i hi.
    agree (λ b. mul (mul (2 ^ i) b) c) (λ b. mul (2 ^ i) (mul b c))
    (after (λ x. mul x c) (λ x. mul (2 ^ i) x) (mul_l c) (mul_r (2 ^ i))) (after (λ x. mul (2 ^ i) x) (λ x. mul x c) (mul_r (2 ^ i)) (mul_l c))
    (λ j hj.
    agree (λ c. mul (mul (2 ^ i) (2 ^ j)) c) (λ c. mul (2 ^ i) (mul (2 ^ j) c))
    (mul_r (mul (2 ^ i) (2 ^ j))) (after (λ x. mul (2 ^ i) x) (λ x. mul (2 ^ j) x) (mul_r (2 ^ i)) (mul_r (2 ^ j)))
    (assoc_basis i hi j hj) c) b) a

-- ---- one, and inverses

one_test : ℕ → Bool
one_test a = eqb (mul 1 a) a

pub one_mul_byte : (a : ℕ) → a < 256 → mul 1 a ≡ a
unfolding one_test upto mul polynomial_product reduced
one_mul_byte a h = eqb→eq (mul 1 a) a (at one_test 256 tt a h)

inv_test : ℕ → Bool
inv_test a = eqb (mul (suc a) (inv (suc a))) 1

inv_suc : (a : ℕ) → a < 255 → mul (suc a) (inv (suc a)) ≡ 1
unfolding inv_test upto mul polynomial_product reduced inv squares
inv_suc a h = eqb→eq (mul (suc a) (inv (suc a))) 1 (at inv_test 255 tt a h)

pub mul_inv : (a : ℕ) → 0 < a → a < 256 → mul a (inv a) ≡ 1
mul_inv zero p h = absurd (not-suc-le-zero p)
mul_inv (suc a) p h = inv_suc a (le_of_suc-le-suc h)

pub mul-zero : (a : ℕ) → mul a 0 ≡ 0
mul-zero a = linear_zero (mul a) (mul_r a)

pub zero-mul : (a : ℕ) → mul 0 a ≡ 0
zero-mul a = linear_zero (λ x. mul x a) (mul_l a)

no_divisor : (a b : ℕ) → 0 < a → a < 256 → b < 256 → mul a b ≡ 0 → b ≡ 0
no_divisor a b p ha hb e =
    sym (one_mul_byte b hb) ∙ ap (λ (x : ℕ). mul x b) (sym (mul_inv a p ha) ∙ mul_comm a (inv a))
    ∙ mul_assoc (inv a) a b ∙ ap (mul (inv a)) e ∙ mul-zero (inv a)

pub inv_byte : (a : ℕ) → inv a < 256
unfolding inv squares
inv_byte a = mul_byte (mul a a) (squares 6 (mul (mul a a) (mul a a)))

-- an inverse is known by its product
pub inv_is : (a b : ℕ) → 0 < a → a < 256 → b < 256 → mul a b ≡ 1 → b ≡ inv a
inv_is a b p ha hb e =
    sym (one_mul_byte b hb) ∙ ap (λ (x : ℕ). mul x b) (sym (mul_inv a p ha) ∙ mul_comm a (inv a))
    ∙ mul_assoc (inv a) a b ∙ ap (mul (inv a)) e ∙ mul_comm (inv a) 1 ∙ one_mul_byte (inv a) (inv_byte a)

inv_zero : inv 0 ≡ 0
unfolding inv squares
inv_zero = ap (λ (x : ℕ). mul x (squares 6 (mul x x))) (mul-zero 0) ∙ zero-mul (squares 6 (mul 0 0))

worked : (div 1 2 ≡ 142) × (div 1 3 ≡ 244)
unfolding mul polynomial_product reduced inv squares
worked = (refl, refl)

pub stands : FieldLaws
stands =
    record {
      mul_byte = mul_byte;
      inv_byte = inv_byte;
      mul_comm = mul_comm;
      mul_assoc = mul_assoc;
      mul_xor = mul_xor;
      one-mul = one_mul_byte;
      mul_inv = mul_inv;
      no_divisor = no_divisor;
      inv_zero = inv_zero;
      div_zero = λ a. ap (mul a) inv_zero ∙ mul-zero a;
      half = worked.0;
      third = worked.1;
    }
