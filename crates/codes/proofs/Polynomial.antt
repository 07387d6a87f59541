-- The polynomial code: its two laws, its weights, and that its symbols are a polynomial's values.
use Rattle.std.proofs.Common.{◌≡◌, ℕ, zero, suc, ◌*◌, ◌%◌, ◌<◌, ◌≤◌, List, [], ◌∷◌, map, length, get_or, sym, refl, ap, ◌∙◌, subst, ap₂, mod-lt, mod-eq_of_lt, arith, lit<}
use lib.ListN.{length-map}
use lib.Bits.{bit_xor, xor_zero_r, xor_mod, xor_lt}
use Rattle.galois.specs.Field.{mul, inv}
use Rattle.galois.proofs.Law.{mul_comm, one_mul_byte}
use Rattle.galois.proofs.Steps.{mul_byte, mul_low_r}
use Rattle.codes.specs.Code.{applied, symbol, lagrange, polynomial, FirstLaw, SecondLaw, WeightLaw, scaled_weight, value, Interpolates, PolynomialLaw, plain_scale}
use Rattle.codes.proofs.Ring as ring
use Rattle.codes.proofs.Bytes.{bytes, inverse, Deg, Scaled, unit_inv, second, meets}

-- places 0 to k - 1
plain : (k : ℕ) → k ≤ 128 → ring.Separate ℕ bytes inv k (λ m. m)
plain k hk i j hi hj d = inverse i j (omega arith) (omega arith) d

pub scaled : (k : ℕ) → Scaled polynomial (plain_scale k) k
unfolding applied lagrange polynomial
scaled k =
    record {
      unit = λ i h. unit_inv 1 1 (lit< tt) (one_mul_byte 1 (lit< tt));
      word = λ d i. symbol polynomial k d i;
      deg = λ d.
          ring.deg_sum ℕ bytes k k (λ j x. mul (polynomial k x j) (d j))
          (λ j h. ring.deg_same ℕ bytes k (λ x. mul (d j) (polynomial k x j)) (λ x. mul (polynomial k x j) (d j))
          (λ x. mul_comm (d j) (polynomial k x j))
          (ring.deg_scale ℕ bytes k (d j) (λ x. polynomial k x j) (ring.weight_deg ℕ bytes inv k (λ m. m) j h)));
      is = λ d i h. sym (ring.one_sum ℕ bytes k (λ j. polynomial k i j) (λ j. d j));
    }

pub first_law : FirstLaw polynomial
unfolding applied lagrange polynomial
first_law k hk d i h b =
    ring.sum_only ℕ bytes k i (λ j. mul (polynomial k i j) (d j)) h
    (λ j hj n. ap (λ (x : ℕ). mul x (d j)) (ring.weight_else ℕ bytes inv k (λ m. m) i j h (λ e. n (sym e)))
    ∙ ring.zero-mul ℕ bytes (d j))
    ∙ ap (λ (x : ℕ). mul x (d i)) (ring.weight_here ℕ bytes inv k (λ m. m) (plain k hk) i h)
    ∙ one_mul_byte (d i) b

pub second_law : SecondLaw polynomial
second_law k hk = second polynomial (plain_scale k) k hk (scaled k)

-- no factor is 0
pub scale_unit : (k : ℕ) → k ≤ 128 → (i : ℕ) → i < 2 * k → mul (plain_scale k i) (inv (plain_scale k i)) ≡ 1
scale_unit k hk i h = (scaled k).unit i h

pub weight_law : WeightLaw polynomial (scaled_weight plain_scale)
unfolding scaled_weight
weight_law k hk p s pl sb = meets polynomial (plain_scale k) k hk (scaled k) (first_law k hk) p s pl sb

-- ---- in coefficients

value_deg : (cs : List ℕ) → Deg (length cs) (value cs)
unfolding value
value_deg [] = ring.deg_zero ℕ bytes 0
value_deg (a ∷ cs) =
    ring.deg_add ℕ bytes (suc (length cs)) (λ x. a) (λ x. mul x (value cs x)) (ring.deg_const ℕ bytes (length cs) a)
    (ring.deg_same ℕ bytes (suc (length cs)) (λ x. mul (bit_xor x 0) (value cs x)) (λ x. mul x (value cs x))
    (λ x. ap (λ (y : ℕ). mul y (value cs x)) (xor_zero_r x))
    (ring.deg_times ℕ bytes (length cs) 0 (value cs) (value_deg cs)))

coefficients : (k : ℕ) (f : ℕ → ℕ) → Deg k f → (cs : List ℕ) × (length cs ≡ k) × ((x : ℕ) → f x ≡ value cs x)
unfolding value ring.Deg
coefficients zero f d = ([], refl, d)
coefficients (suc k) f d =
    let r : (cs : List ℕ) × (length cs ≡ k) × ((x : ℕ) → (d 0).0 x ≡ value cs x) = coefficients k (d 0).0 (d 0).1 in
    (f 0 ∷ r.0, ap suc r.1, λ x. (d 0).2 x ∙ ap₂ (λ (a b : ℕ). bit_xor (f 0) (mul a b)) (xor_zero_r x) (r.2 x))

value_byte : (cs : List ℕ) (x : ℕ) → ((n : ℕ) → get_or cs n 0 < 256) → value cs x < 256
unfolding value
value_byte [] x h = lit< tt
value_byte (a ∷ cs) x h = xor_lt 8 a (mul x (value cs x)) (h 0) (mul_byte x (value cs x))

every : (k : ℕ) → k ≤ 128 → (d : ℕ → ℕ) (P : List ℕ) → Interpolates k d P
    → (i : ℕ) → i < 2 * k → symbol polynomial k d i ≡ value P i
unfolding applied lagrange polynomial
every k hk d P q i hi =
    ring.over_same bit_xor 0 k (λ j. mul (polynomial k i j) (d j)) (λ j. mul (value P j) (polynomial k i j))
    (λ j hj. mul_comm (polynomial k i j) (d j) ∙ ap (λ (x : ℕ). mul x (polynomial k i j)) (sym (q.values j hj)))
    ∙ sym (ring.settled ℕ bytes inv k (λ m. m) (plain k hk) (value P) (subst (λ (n : ℕ). Deg n (value P)) q.degree (value_deg P)) i)
    ∙ one_mul_byte (value P i) (value_byte P i q.bytes)

-- the low bytes of the coefficients
low_value : (cs : List ℕ) (x : ℕ) → value (map (λ c. c % 256) cs) x ≡ value cs x % 256
unfolding value
low_value [] x = refl
low_value (a ∷ cs) x =
    ap (bit_xor (a % 256)) (ap (mul x) (low_value cs x) ∙ mul_low_r x (value cs x) ∙ sym (mod-eq_of_lt (mul_byte x (value cs x))))
    ∙ sym (xor_mod a (mul x (value cs x)) 8)

low_bytes : (cs : List ℕ) (n : ℕ) → get_or (map (λ c. c % 256) cs) n 0 < 256
low_bytes [] n = lit< tt
low_bytes (a ∷ cs) zero = mod-lt a (lit< tt)
low_bytes (a ∷ cs) (suc n) = low_bytes cs n

some : (k : ℕ) → k ≤ 128 → (d : ℕ → ℕ) → ((j : ℕ) → j < k → d j < 256) → (P : List ℕ) × Interpolates k d P
unfolding scaled
some k hk d b =
    let r = coefficients k (λ x. symbol polynomial k d x) ((scaled k).deg d) in (
      map (λ c. c % 256) r.0,
      record {
        degree = length-map r.0 (λ c. c % 256) ∙ r.1;
        bytes = low_bytes r.0;
        values = λ j h.
            low_value r.0 j ∙ ap (λ (x : ℕ). x % 256) (sym (r.2 j) ∙ first_law k hk d j h (b j h)) ∙ mod-eq_of_lt (b j h);
      },
    )

pub polynomial_law : PolynomialLaw
polynomial_law = record { some = some; every = every }
