-- The numbers with `bit_xor` and the field's product as the ring of `Ring`, and what all codes over it share whose words are scaled
-- values of polynomials.
use Rattle.std.proofs.Common.{◌≡◌, ℕ, zero, suc, ◌*◌, ◌<◌, ◌≤◌, ◌≢◌, sym, refl, ap, ◌∙◌, subst, arith, lit<}
use lib.Bits.{bit_xor, xor_assoc, xor_comm, xor_self, xor_lt}
use Rattle.galois.specs.Field.{mul, inv}
use Rattle.galois.proofs.Law.{mul_comm, mul_assoc, one_mul_byte, mul_inv}
use Rattle.galois.proofs.Steps.{mul_byte, mul_xor}
use Rattle.codes.specs.Over.{over}
use Rattle.codes.specs.Code.{Table, applied, symbol, lagrange, Places, Meets}
use Rattle.codes.proofs.Ring.{Ring}
use Rattle.codes.proofs.Ring as ring

abbrev pub bytes : Ring ℕ
bytes =
    record {
      ◌⊕◌ = bit_xor;
      ◌⊗◌ = mul;
      𝟘 = 0;
      𝟙 = 1;
      add_assoc = xor_assoc;
      add_comm = xor_comm;
      zero-add = λ a. refl;
      add_self = xor_self;
      mul_assoc = mul_assoc;
      mul_comm = mul_comm;
      mul-add = mul_xor;
      one-mul = λ a b. one_mul_byte (mul a b) (mul_byte a b);
      one_one = one_mul_byte 1 (lit< tt);
    }

-- what has a partner has an inverse
pub unit_inv : (a b : ℕ) → a < 256 → mul a b ≡ 1 → mul a (inv a) ≡ 1
unit_inv zero b h e = let z : ◌≡◌ {A = ℕ} 0 1 = sym (ring.zero-mul ℕ bytes b) ∙ e in absurd (omega arith)
unit_inv (suc a) b h e = mul_inv (suc a) (omega arith) h

pub inverse : (a b : ℕ) → a < 256 → b < 256 → a ≢ b → mul (bit_xor a b) (inv (bit_xor a b)) ≡ 1
inverse a b ha hb d =
    let n : bit_xor a b ≢ 0 = λ e. d (ring.add_cancel ℕ bytes a b e) in
    mul_inv (bit_xor a b) (omega arith) (xor_lt 8 a b ha hb)

abbrev pub Deg : ℕ → (ℕ → ℕ) → Type 0
Deg k f = ring.Deg ℕ bytes k f

-- how a code's words come from polynomials: symbol i is v i times the value at i of one of degree below k
pub record Scaled (T : Table) (v : ℕ → ℕ) (k : ℕ) : Type 0 where
  pub unit : (i : ℕ) → i < 2 * k → mul (v i) (inv (v i)) ≡ 1
  pub word : (ℕ → ℕ) → ℕ → ℕ
  pub deg : (d : ℕ → ℕ) → Deg k (word d)
  pub is : (d : ℕ → ℕ) (i : ℕ) → i < 2 * k → symbol T k d i ≡ mul (v i) (word d i)

pub separate : (k : ℕ) (p : ℕ → ℕ) → k ≤ 128 → Places k p → ring.Separate ℕ bytes inv k p
separate k p hk s i j hi hj d =
    let a : p i < 2 * k = s.below i hi in
    let b : p j < 2 * k = s.below j hj in
    inverse (p i) (p j) (omega arith) (omega arith) (s.apart i j hi hj d)

module _ (T : Table) (v : ℕ → ℕ) (k : ℕ) (hk : k ≤ 128) (S : Scaled T v k) where
  -- the weight in symbol i of the share at place p j
  abbrev pub weight : (ℕ → ℕ) → ℕ → ℕ → ℕ
  weight p i j = mul (mul (v i) (inv (v (p j)))) (lagrange k p i j)

  -- every symbol is a weighted sum of those at any k places
  pub recover : (d p : ℕ → ℕ) → Places k p → (i : ℕ) → i < 2 * k → symbol T k d i ≡ applied k (weight p i) (λ j. symbol T k d (p j))
  unfolding applied lagrange
  recover d p s i hi =
      S.is d i hi
      ∙ ring.recovered ℕ bytes inv k p (separate k p hk s) (S.word d) (S.deg d) v (λ x. inv (v x)) (λ j h. S.unit (p j) (s.below j h)) i
      ∙ ring.over_same bit_xor 0 k (λ j. mul (weight p i j) (mul (v (p j)) (S.word d (p j)))) (λ j. mul (weight p i j) (symbol T k d (p j)))
      (λ j h. ap (mul (weight p i j)) (sym (S.is d (p j) (s.below j h))))

  pub second : (d e p : ℕ → ℕ) → Places k p
      → ((j : ℕ) → j < k → symbol T k d (p j) ≡ symbol T k e (p j))
      → (i : ℕ) → i < 2 * k → symbol T k d i ≡ symbol T k e i
  unfolding applied
  second d e p s h i hi =
      recover d p s i hi
      ∙ ring.over_same bit_xor 0 k (λ j. mul (weight p i j) (symbol T k d (p j))) (λ j. mul (weight p i j) (symbol T k e (p j)))
      (λ j hj. ap (mul (weight p i j)) (h j hj))
      ∙ sym (recover e p s i hi)

  -- and any k shares at k places have a codeword through them
  module _ (first : (d : ℕ → ℕ) (i : ℕ) → i < k → d i < 256 → symbol T k d i ≡ d i)
      (p s : ℕ → ℕ) (pl : Places k p) (sb : (j : ℕ) → j < k → s j < 256) where
    -- the polynomial behind it
    behind : ℕ → ℕ
    behind x = over bit_xor 0 k (λ j. mul (mul (inv (v (p j))) (s j)) (ring.weight ℕ bytes inv k p j x))

    behind_deg : Deg k behind
    unfolding behind
    behind_deg =
        ring.deg_sum ℕ bytes k k (λ j x. mul (mul (inv (v (p j))) (s j)) (ring.weight ℕ bytes inv k p j x))
        (λ j h. ring.deg_scale ℕ bytes k (mul (inv (v (p j))) (s j)) (ring.weight ℕ bytes inv k p j) (ring.weight_deg ℕ bytes inv k p j h))

    c : ℕ → ℕ
    c i = applied k (weight p i) s

    c_behind : (i : ℕ) → c i ≡ mul (v i) (behind i)
    unfolding c applied lagrange behind
    c_behind i =
        ring.over_same bit_xor 0 k
        (λ j. mul (weight p i j) (s j))
        (λ j. mul (v i) (mul (mul (inv (v (p j))) (s j)) (ring.weight ℕ bytes inv k p j i)))
        (λ j h. shuffle (v i) (inv (v (p j))) (ring.weight ℕ bytes inv k p j i) (s j))
        ∙ sym (ring.sum_scale ℕ bytes (v i) k (λ j. mul (mul (inv (v (p j))) (s j)) (ring.weight ℕ bytes inv k p j i)))
      where
        shuffle : (a b w y : ℕ) → mul (mul (mul a b) w) y ≡ mul a (mul (mul b y) w)
        shuffle a b w y = mul_assoc (mul a b) w y ∙ mul_assoc a b (mul w y) ∙ ap (mul a) (ap (mul b) (mul_comm w y) ∙ sym (mul_assoc b y w))

    c_given : (i : ℕ) → i < k → c (p i) ≡ s i
    unfolding behind
    c_given i h =
        c_behind (p i)
        ∙ ap (mul (v (p i)))
        (ring.sum_only ℕ bytes k i (λ j. mul (mul (inv (v (p j))) (s j)) (ring.weight ℕ bytes inv k p j (p i))) h
        (λ j hj d. ap (mul (mul (inv (v (p j))) (s j))) (ring.weight_else ℕ bytes inv k p i j h (λ e. d (sym e)))
        ∙ ring.mul-zero ℕ bytes (mul (inv (v (p j))) (s j)))
        ∙ ap (mul (mul (inv (v (p i))) (s i))) (ring.weight_here ℕ bytes inv k p (separate k p hk pl) i h)
        ∙ mul_comm (mul (inv (v (p i))) (s i)) 1 ∙ bytes.one-mul (inv (v (p i))) (s i))
        ∙ sym (mul_assoc (v (p i)) (inv (v (p i))) (s i)) ∙ ap (λ (x : ℕ). mul x (s i)) (S.unit (p i) (pl.below i h))
        ∙ one_mul_byte (s i) (sb i h)

    plain : Places k (λ j. j)
    plain = record { below = λ j h. omega arith; apart = λ i j hi hj d. d }

    c_coded : (i : ℕ) → i < 2 * k → symbol T k c i ≡ c i
    unfolding applied lagrange
    c_coded i h =
        recover c (λ j. j) plain i h
        ∙ ring.over_same bit_xor 0 k (λ j. mul (weight (λ j. j) i j) (symbol T k c j)) (λ j. mul (weight (λ j. j) i j) (mul (v j) (behind j)))
        (λ j hj. ap (mul (weight (λ j. j) i j))
        (first c j hj (subst (λ (x : ℕ). x < 256) (sym (c_behind j)) (mul_byte (v j) (behind j))) ∙ c_behind j))
        ∙ sym (ring.recovered ℕ bytes inv k (λ j. j) (separate k (λ j. j) hk plain) behind behind_deg v (λ x. inv (v x)) (λ j hj. S.unit j (omega arith)) i)
        ∙ sym (c_behind i)

    pub meets : Meets T k p s (λ i. applied k (weight p i) s)
    unfolding c
    meets = record { coded = c_coded; given = c_given }
