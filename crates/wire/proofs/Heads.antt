-- Numbers in bytes, and what a head says of itself.
use Rattle.std.proofs.Common.{◌≡◌, ℕ, ◌/◌, ◌%◌, ◌^◌, ◌<◌, ◌≤◌, List, [], ◌∷◌, ◌++◌, length, drop, sym, ◌∙◌, arith}
use native.Mathlib.Nat.{div-div-eq-div-mul}
use Rattle.std.specs.List.{AllByRecursion as All}
use Rattle.std.proofs.lemmas.Nat.{div-add-mod'}
use Rattle.wire.specs.Reading.{two, four, body_len, kind_in}
use Rattle.wire.specs.Writing.{head_of}

pub two_back : (n : ℕ) → n < 65536 → two (n % 256) (n / 256 % 256) ≡ n
two_back n h = omega arith

pub four_back : (n : ℕ) → n < 2 ^ 32 → four (n % 256) (n / 256 % 256) (n / 65536 % 256) (n / 16777216 % 256) ≡ n
four_back n h =
    let a : n / 65536 ≡ n / 256 / 256 = sym (div-div-eq-div-mul n 256 256) in
    let b : n / 16777216 ≡ n / 256 / 256 / 256 = sym (div-div-eq-div-mul (n / 256) 256 256 ∙ div-div-eq-div-mul n 256 65536) in
    let e0 = div-add-mod' n 256 in
    let e1 = div-add-mod' (n / 256) 256 in
    let e2 = div-add-mod' (n / 256 / 256) 256 in
    let e3 = div-add-mod' (n / 256 / 256 / 256) 256 in
    let z : n / 256 / 256 / 256 / 256 ≡ 0 = omega arith in
    rw (a, b) (omega arith)

pub low : (a b : ℕ) → a < 256 → two a b % 256 ≡ a
low a b h = omega arith

pub high : (a b : ℕ) → a < 256 → b < 256 → two a b / 256 % 256 ≡ b
high a b h k = omega arith

four_low : (a b c d : ℕ) → a < 256 → b < 256 → c < 256 → d < 256 → four a b c d % 256 ≡ a
four_low a b c d ha hb hc hd = omega arith

four_two : (a b c d : ℕ) → a < 256 → b < 256 → c < 256 → d < 256 → four a b c d / 256 % 256 ≡ b
four_two a b c d ha hb hc hd = omega arith

four_three : (a b c d : ℕ) → a < 256 → b < 256 → c < 256 → d < 256 → four a b c d / 65536 % 256 ≡ c
four_three a b c d ha hb hc hd = omega arith

four_high : (a b c d : ℕ) → a < 256 → b < 256 → c < 256 → d < 256 → four a b c d / 16777216 % 256 ≡ d
four_high a b c d ha hb hc hd = omega arith

-- the six bytes of a head are those of what they say
pub head_of_lem : (bs : List ℕ) → 6 ≤ length bs → All (λ b. b < 256) bs → head_of (body_len bs) (kind_in bs) ++ drop 6 bs ≡ bs
head_of_lem [] h q = absurd (omega arith)
head_of_lem (a ∷ []) h q = absurd (omega arith)
head_of_lem (a ∷ b ∷ []) h q = absurd (omega arith)
head_of_lem (a ∷ b ∷ c ∷ []) h q = absurd (omega arith)
head_of_lem (a ∷ b ∷ c ∷ d ∷ []) h q = absurd (omega arith)
head_of_lem (a ∷ b ∷ c ∷ d ∷ e ∷ []) h q = absurd (omega arith)
head_of_lem (a ∷ b ∷ c ∷ d ∷ e ∷ f ∷ rest) h q =
    let e0 = four_low a b c d q.0 q.1.0 q.1.1.0 q.1.1.1.0 in
    let e1 = four_two a b c d q.0 q.1.0 q.1.1.0 q.1.1.1.0 in
    let e2 = four_three a b c d q.0 q.1.0 q.1.1.0 q.1.1.1.0 in
    let e3 = four_high a b c d q.0 q.1.0 q.1.1.0 q.1.1.1.0 in
    let e4 = low e f q.1.1.1.1.0 in
    let e5 = high e f q.1.1.1.1.0 q.1.1.1.1.1.0 in
    cc
