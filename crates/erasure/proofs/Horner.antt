-- A sum by coefficients, from their highest bit down.
use Rattle.std.proofs.Common.{◌≡◌, ℕ, ◌+◌, ◌*◌, ◌/◌, ◌%◌, ◌^◌, ◌<◌, ◌≤◌, sym, ap, ◌∙◌, ap₂, mod-lt, mod-eq_of_lt, div-add-mod', div-one, arith, lit<}
use lib.Bits.{bit_xor, xor_zero_r, xor_comm, xor_assoc, xor_shifted}
use Rattle.std.proofs.lemmas.Nat.{shr-shr, shr_le}
use Rattle.galois.specs.Field.{mul}
use Rattle.galois.proofs.Steps.{times_x, mul_two, mul_xor_l}
use Rattle.galois.proofs.Law as field
use Rattle.codes.specs.Over.{over}
use Rattle.codes.specs.Code.{applied}
use Rattle.codes.proofs.Ring as ring
use Rattle.codes.proofs.Bytes.{bytes}
use Rattle.codes.proofs.Words.{applied_row}

-- below 128, x times a is a moved up by one
twice : (q : ℕ) → q < 128 → mul 2 q ≡ q * 2
unfolding times_x
twice q h =
    let a : q % 128 ≡ q = mod-eq_of_lt h in
    let b : q / 128 % 2 ≡ 0 = omega arith in
    mul_two q ∙ ap₂ (λ (x y : ℕ). bit_xor (x * 2) (y * 29)) a b ∙ xor_zero_r (q * 2)

-- a product, by the lowest bit of the first factor and the others
halved : (x d : ℕ) → x < 256 → mul x d ≡ bit_xor (mul 2 (mul (x / 2) d)) (mul (x % 2) d)
halved x d h =
    let q : x / 2 < 128 = omega arith in
    ap (λ (y : ℕ). mul y d) (sym (xor_shifted (x / 2) 1 (x % 2) (mod-lt x (lit< tt)) ∙ div-add-mod' x 2))
    ∙ mul_xor_l (x / 2 * 2) (x % 2) d
    ∙ ap (λ (y : ℕ). bit_xor (mul y d) (mul (x % 2) d)) (sym (twice (x / 2) q))
    ∙ ap (λ (y : ℕ). bit_xor y (mul (x % 2) d)) (field.mul_assoc 2 (x / 2) d)

-- bit n of the coefficients, and those above it
pub bit_more : (k n : ℕ) (row d : ℕ → ℕ) → ((j : ℕ) → row j < 256)
    → applied k (λ j. row j / 2 ^ n) d ≡ bit_xor (mul 2 (applied k (λ j. row j / 2 ^ (n + 1)) d)) (applied k (λ j. row j / 2 ^ n % 2) d)
unfolding applied
bit_more k n row d small =
    ring.over_same bit_xor 0 k (λ j. mul (row j / 2 ^ n) (d j)) (λ j. bit_xor (mul 2 (mul (row j / 2 ^ (n + 1)) (d j))) (mul (row j / 2 ^ n % 2) (d j)))
    (λ j h.
    let s : row j < 256 = small j in
    let l : row j / 2 ^ n ≤ row j = shr_le (row j) n in
    halved (row j / 2 ^ n) (d j) (omega arith)
    ∙ ap (λ (x : ℕ). bit_xor (mul 2 (mul x (d j))) (mul (row j / 2 ^ n % 2) (d j))) (shr-shr (row j) n 1))
    ∙ ring.sum_add ℕ bytes k (λ j. mul 2 (mul (row j / 2 ^ (n + 1)) (d j))) (λ j. mul (row j / 2 ^ n % 2) (d j))
    ∙ ap (λ (x : ℕ). bit_xor x (over bit_xor 0 k (λ j. mul (row j / 2 ^ n % 2) (d j))))
    (sym (ring.sum_scale ℕ bytes 2 k (λ j. mul (row j / 2 ^ (n + 1)) (d j))))

-- no bit lies above the highest
pub bit_none : (k : ℕ) (row d : ℕ → ℕ) → ((j : ℕ) → row j < 256) → 0 ≡ applied k (λ j. row j / 2 ^ 8) d
unfolding applied
bit_none k row d small =
    sym (ring.sum_zero ℕ bytes k (λ j. mul (row j / 256) (d j))
    (λ j h. let s : row j < 256 = small j in let z : row j / 256 ≡ 0 = omega arith in ap (λ (x : ℕ). mul x (d j)) z ∙ field.zero-mul (d j)))

-- and all stand from the lowest on
pub bit_all : (k : ℕ) (row d : ℕ → ℕ) → applied k (λ j. row j / 2 ^ 0) d ≡ applied k row d
bit_all k row d = applied_row k (λ j. row j / 1) row d (λ j h. div-one (row j))

-- ---- a sum, one term after the other

pub applied_none : (row d : ℕ → ℕ) (x : ℕ) → x ≡ bit_xor x (applied 0 row d)
unfolding applied over
applied_none row d x = sym (xor_zero_r x)

applied_more : (n : ℕ) (row d : ℕ → ℕ) → bit_xor (applied n row d) (mul (row n) (d n)) ≡ applied (n + 1) row d
unfolding applied
applied_more n row d =
    xor_comm (over bit_xor 0 n (λ j. mul (row j) (d j))) (mul (row n) (d n)) ∙ ring.over_more bit_xor 0 n (λ j. mul (row j) (d j))

-- the term is added, or left out where its coefficient is 0
pub more_with : (n : ℕ) (row d : ℕ → ℕ) (x y : ℕ) → row n ≡ 1 → d n < 256 → y ≡ bit_xor x (applied n row d) → bit_xor y (d n) ≡ bit_xor x (applied (n + 1) row d)
more_with n row d x y one small e =
    ap₂ bit_xor e (sym (ap (λ (z : ℕ). mul z (d n)) one ∙ field.one_mul_byte (d n) small))
    ∙ xor_assoc x (applied n row d) (mul (row n) (d n)) ∙ ap (bit_xor x) (applied_more n row d)

pub more_without : (n : ℕ) (row d : ℕ → ℕ) (x y : ℕ) → row n ≡ 0 → y ≡ bit_xor x (applied n row d) → y ≡ bit_xor x (applied (n + 1) row d)
more_without n row d x y none e =
    e ∙ ap (bit_xor x)
    (sym (xor_zero_r (applied n row d)) ∙ ap (bit_xor (applied n row d)) (sym (ap (λ (z : ℕ). mul z (d n)) none ∙ field.zero-mul (d n)))
    ∙ applied_more n row d)
