-- A weight by its factors, and products factor by factor.
use Rattle.std.proofs.Common.{◌≡◌, ℕ, ◌+◌, ◌*◌, ◌<◌, ◌≤◌, cond, ◌≢◌, sym, refl, ap, ◌∙◌, subst, ap₂, ⊎_elim, arith, lit<, eq-eqb, ne_eqb}
use lib.Bits.{bit_xor, xor_lt}
use Rattle.std.proofs.lemmas.Bool.{cases_eq}
use Rattle.galois.specs.Field.{mul, inv}
use Rattle.galois.proofs.Law as field
use Rattle.codes.specs.Over.{over, except}
use Rattle.codes.specs.Code.{Places, lagrange}
use Rattle.codes.proofs.Ring as ring
use Rattle.codes.proofs.Bytes.{bytes, inverse, separate}
use Rattle.erasure.specs.Weights.{numerator, denominator, weight_by}

pub byte_xor : (a b : ℕ) → a < 256 → b < 256 → bit_xor a b < 256
byte_xor a b ha hb = xor_lt 8 a b ha hb

-- ---- a product, one factor after the other, with one left out

pub product_none : (f : ℕ → ℕ) → 1 ≡ over mul 1 0 f
unfolding over
product_none f = refl

pub product_more : (m r : ℕ) (f : ℕ → ℕ) → r ≡ over mul 1 m f → mul (f m) r ≡ over mul 1 (m + 1) f
product_more m r f e = ap (mul (f m)) e ∙ ring.over_more mul 1 m f

pub except_more : (m j r : ℕ) (f : ℕ → ℕ) → m ≢ j → r ≡ over mul 1 m (except 1 j f) → mul (f m) r ≡ over mul 1 (m + 1) (except 1 j f)
except_more m j r f d e = ap₂ mul (sym (ring.except_else 1 j f m d)) e ∙ ring.over_more mul 1 m (except 1 j f)

pub except_skip : (m j r : ℕ) (f : ℕ → ℕ) → m ≡ j → r ≡ over mul 1 m (except 1 j f) → r ≡ over mul 1 (m + 1) (except 1 j f)
except_skip m j r f d e =
    e ∙ sym (ring.one_prod ℕ bytes m (except 1 j f))
    ∙ ap (λ (x : ℕ). mul x (over mul 1 m (except 1 j f))) (sym (ap (λ (i : ℕ). except 1 j f i) d ∙ ring.except_here 1 j f))
    ∙ ring.over_more mul 1 m (except 1 j f)

-- ---- the weight

module _ (k : ℕ) (hk : k ≤ 128) (p : ℕ → ℕ) (pl : Places k p) (v : ℕ → ℕ) (unit : (i : ℕ) → i < 2 * k → mul (v i) (inv (v i)) ≡ 1)
    (i j : ℕ) (hi : i < 2 * k) (hj : j < k) where
  whole : ℕ
  whole = mul (mul (v i) (inv (v (p j)))) (lagrange k p i j)

  here : p j ≡ i → whole ≡ 1
  unfolding whole lagrange
  here e =
      subst (λ (n : ℕ). mul (mul (v n) (inv (v (p j)))) (ring.weight ℕ bytes inv k p j n) ≡ 1) e
      (ap₂ mul (unit (p j) (pl.below j hj)) (ring.weight_here ℕ bytes inv k p (separate k p hk pl) j hj) ∙ field.one_mul_byte 1 (lit< tt))

  gap : ℕ
  gap = bit_xor i (p j)

  others : ℕ
  others = ring.others ℕ bytes k j (λ m. bit_xor i (p m))

  split : (a b o d x y : ℕ) → mul x y ≡ 1 → mul (mul (mul a (mul x o)) y) (mul b d) ≡ mul (mul a b) (mul o d)
  split a b o d x y e =
      ap (λ (z : ℕ). mul z (mul b d))
      (field.mul_assoc a (mul x o) y
      ∙ ap (mul a) (field.mul_comm (mul x o) y ∙ sym (field.mul_assoc y x o) ∙ ap (λ (z : ℕ). mul z o) (field.mul_comm y x ∙ e))
      ∙ ring.mul_left_comm ℕ bytes a 1 o ∙ bytes.one-mul a o)
      ∙ ring.mul_four ℕ bytes a o b d

  elsewhere : p j ≢ i → mul (mul (mul (v i) (numerator k p i)) (inv gap)) (mul (inv (v (p j))) (denominator k p j)) ≡ whole
  unfolding whole lagrange numerator denominator gap others
  elsewhere d =
      let b : p j < 2 * k = pl.below j hj in
      ap (λ (n : ℕ). mul (mul (mul (v i) n) (inv gap)) (mul (inv (v (p j))) (denominator k p j)))
      (ring.prod_split ℕ bytes k j (λ m. bit_xor i (p m)) hj)
      ∙ split (v i) (inv (v (p j))) others (denominator k p j) gap (inv gap) (inverse i (p j) (omega arith) (omega arith) (λ e. d (sym e)))
      ∙ ap (mul (mul (v i) (inv (v (p j))))) (sym (ring.others_mul ℕ bytes k j (λ m. bit_xor i (p m)) (λ m. inv (bit_xor (p j) (p m)))))

  pub weight_by_lem : weight_by (mul (v i) (numerator k p i)) (mul (inv (v (p j))) (denominator k p j)) i (p j)
      ≡ mul (mul (v i) (inv (v (p j)))) (lagrange k p i j)
  unfolding whole gap
  weight_by_lem =
      ⊎_elim
      (λ e. ap (λ t. cond t 1 (mul (mul (mul (v i) (numerator k p i)) (inv gap)) (mul (inv (v (p j))) (denominator k p j)))) (eq-eqb (p j) i e) ∙ sym (here e))
      (λ d. ap (λ t. cond t 1 (mul (mul (mul (v i) (numerator k p i)) (inv gap)) (mul (inv (v (p j))) (denominator k p j)))) (ne_eqb (p j) i d) ∙ elsewhere d)
      (cases_eq (p j) i)
