-- The Cauchy code: its two laws, its weights, and that its symbols are sums of quotients.
use Rattle.std.proofs.Common.{◌≡◌, ℕ, ◌*◌, ◌<◌, ◌≤◌, cond, eqb, ◌≢◌, sym, refl, ap, ◌∙◌, subst, arith, le-ltb, lt-ltb, eq-eqb, ne_eqb}
use native.Mathlib.Decide.{dec_lt}
use lib.Bits.{bit_xor, xor_self}
use Rattle.galois.specs.Field.{mul, inv, div}
use Rattle.galois.proofs.Law.{mul_comm, one_mul_byte}
use Rattle.galois.proofs.Steps.{mul_byte}
use Rattle.codes.specs.Over.{over, except}
use Rattle.codes.specs.Code.{applied, symbol, cauchy, FirstLaw, SecondLaw, WeightLaw, CauchyLaw, scaled_weight, cauchy_scale}
use Rattle.codes.proofs.Ring as ring
use Rattle.codes.proofs.Bytes.{bytes, inverse, unit_inv, Deg, Scaled, second, meets}

-- the products of i + m, and of their inverses, over m below k other than i
abbrev u : ℕ → ℕ → ℕ
u k i = ring.others ℕ bytes k i (λ m. bit_xor i m)

abbrev v : ℕ → ℕ → ℕ
v k i = ring.others ℕ bytes k i (λ m. inv (bit_xor i m))

-- the product of x + m over m below k other than j
abbrev basis : ℕ → ℕ → ℕ → ℕ
basis k j x = ring.others ℕ bytes k j (λ m. bit_xor x m)

abbrev word : ℕ → (ℕ → ℕ) → ℕ → ℕ
word k d x = over bit_xor 0 k (λ j. mul (d j) (basis k j x))

module _ (k : ℕ) (hk : k ≤ 128) where
  others_unit : (i j : ℕ) → i < 256 → ((m : ℕ) → m < k → m ≢ j → i ≢ m)
      → mul (ring.others ℕ bytes k j (λ m. inv (bit_xor i m))) (ring.others ℕ bytes k j (λ m. bit_xor i m)) ≡ 1
  others_unit i j hi d =
      sym (ring.others_mul ℕ bytes k j (λ m. inv (bit_xor i m)) (λ m. bit_xor i m))
      ∙ ring.others_one ℕ bytes k j (λ m. mul (inv (bit_xor i m)) (bit_xor i m))
      (λ m hm n. mul_comm (inv (bit_xor i m)) (bit_xor i m) ∙ inverse i m hi (omega arith) (d m hm n))

  unit : (i : ℕ) → i < 2 * k → mul (v k i) (u k i) ≡ 1
  unit i h = others_unit i i (omega arith) (λ m hm n e. n (sym e))

  word_deg : (d : ℕ → ℕ) → Deg k (word k d)
  word_deg d =
      ring.deg_sum ℕ bytes k k (λ j x. mul (d j) (basis k j x))
      (λ j h. ring.deg_scale ℕ bytes k (d j) (basis k j) (ring.basis_deg ℕ bytes inv k (λ m. m) k j h))

  -- a symbol below k
  data_row : (i j : ℕ) → i < k → cauchy k i j ≡ cond (eqb i j) 1 0
  unfolding cauchy
  data_row i j h = ap (λ b. cond b (cond (eqb i j) 1 0) (inv (bit_xor i j))) (lt-ltb i k h)

  data_here : (d : ℕ → ℕ) (i : ℕ) → i < k → symbol cauchy k d i ≡ mul 1 (d i)
  unfolding applied
  data_here d i h =
      ring.sum_only ℕ bytes k i (λ j. mul (cauchy k i j) (d j)) h
      (λ j hj n. ap (λ (x : ℕ). mul x (d j)) (data_row i j h ∙ ap (λ b. cond b 1 0) (ne_eqb i j (λ e. n (sym e))))
      ∙ ring.zero-mul ℕ bytes (d j))
      ∙ ap (λ (x : ℕ). mul x (d i)) (data_row i i h ∙ ap (λ b. cond b 1 0) (eq-eqb i i refl))

  is_data : (d : ℕ → ℕ) (i : ℕ) → i < k → symbol cauchy k d i ≡ mul (v k i) (word k d i)
  is_data d i h =
      data_here d i h ∙ mul_comm 1 (d i) ∙ ap (mul (d i)) (sym (unit i (omega arith)))
      ∙ ring.mul_left_comm ℕ bytes (d i) (v k i) (u k i)
      ∙ ap (mul (v k i))
      (sym (ring.sum_only ℕ bytes k i (λ j. mul (d j) (basis k j i)) h
      (λ j hj n. ap (mul (d j)) (ring.others_zero ℕ bytes k j i (λ m. bit_xor i m) h (λ e. n (sym e)) (xor_self i))
      ∙ ring.mul-zero ℕ bytes (d j))))

  -- a symbol from k on
  is_sum : (d : ℕ → ℕ) (i : ℕ) → k ≤ i → i < 2 * k → symbol cauchy k d i ≡ mul (v k i) (word k d i)
  unfolding applied cauchy
  is_sum d i h hi =
      ring.over_same bit_xor 0 k (λ j. mul (cauchy k i j) (d j)) (λ j. mul (v k i) (mul (d j) (basis k j i)))
      (λ j hj. sym (term j hj))
      ∙ sym (ring.sum_scale ℕ bytes (v k i) k (λ j. mul (d j) (basis k j i)))
    where
      rest : ℕ → ℕ
      rest j = ring.others ℕ bytes k j (λ m. inv (bit_xor i m))

      v_split : (j : ℕ) → j < k → v k i ≡ mul (inv (bit_xor i j)) (rest j)
      v_split j hj =
          ring.others_past ℕ bytes k i (λ m. inv (bit_xor i m)) h ∙ ring.prod_split ℕ bytes k j (λ m. inv (bit_xor i m)) hj

      term : (j : ℕ) → j < k → mul (v k i) (mul (d j) (basis k j i)) ≡ mul (cauchy k i j) (d j)
      term j hj =
          ap (λ (x : ℕ). mul x (mul (d j) (basis k j i))) (v_split j hj)
          ∙ ring.mul_four ℕ bytes (inv (bit_xor i j)) (rest j) (d j) (basis k j i)
          ∙ ap (mul (mul (inv (bit_xor i j)) (d j))) (others_unit i j (omega arith) (λ m hm n. omega arith))
          ∙ mul_comm (mul (inv (bit_xor i j)) (d j)) 1
          ∙ bytes.one-mul (inv (bit_xor i j)) (d j)
          ∙ ap (λ b. mul (cond b (cond (eqb i j) 1 0) (inv (bit_xor i j))) (d j)) (sym (le-ltb i k h))

  is : (d : ℕ → ℕ) (i : ℕ) → i < 2 * k → symbol cauchy k d i ≡ mul (v k i) (word k d i)
  is d i h = elim (dec_lt i k) [ yes l ↦ is_data d i l | no n ↦ is_sum d i (omega arith) h ]

  v_byte : (i : ℕ) → v k i < 256
  v_byte i = subst (λ (x : ℕ). x < 256) (ring.one_prod ℕ bytes k (except 1 i (λ m. inv (bit_xor i m)))) (mul_byte 1 (v k i))

  pub scaled : Scaled cauchy (v k) k
  scaled = record { unit = λ i h. unit_inv (v k i) (u k i) (v_byte i) (unit i h); word = word k; deg = word_deg; is = is }

pub first_law : FirstLaw cauchy
first_law k hk d i h b = data_here k hk d i h ∙ one_mul_byte (d i) b

pub second_law : SecondLaw cauchy
second_law k hk = second cauchy (v k) k hk (scaled k hk)

-- the factors are not 0
pub scale_unit : (k : ℕ) → k ≤ 128 → (i : ℕ) → i < 2 * k → mul (cauchy_scale k i) (inv (cauchy_scale k i)) ≡ 1
unfolding cauchy_scale scaled
scale_unit k hk i h = (scaled k hk).unit i h

pub weight_law : WeightLaw cauchy (scaled_weight cauchy_scale)
unfolding cauchy_scale scaled_weight
weight_law k hk p s pl sb = meets cauchy (v k) k hk (scaled k hk) (first_law k hk) p s pl sb

sums : (k : ℕ) (d : ℕ → ℕ) (i : ℕ) → k ≤ i → symbol cauchy k d i ≡ over bit_xor 0 k (λ j. div (d j) (bit_xor i j))
unfolding applied cauchy
sums k d i h =
    ring.over_same bit_xor 0 k (λ j. mul (cauchy k i j) (d j)) (λ j. div (d j) (bit_xor i j))
    (λ j hj. ap (λ b. mul (cond b (cond (eqb i j) 1 0) (inv (bit_xor i j))) (d j)) (le-ltb i k h) ∙ mul_comm (inv (bit_xor i j)) (d j))

pub cauchy_law : CauchyLaw
cauchy_law = record { front = first_law; sums = sums }
