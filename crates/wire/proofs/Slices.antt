-- Parts of a body behind its numbers.
use Rattle.std.proofs.Common.{◌≡◌, ℕ, ◌+◌, ◌-◌, List, length, take, drop, sym, ap, ◌∙◌, arith, drop-drop}
use Rattle.std.proofs.lemmas.List.{take_rest}

pub first_part : (m n : ℕ) (b : List ℕ) → take (m + n - m) (drop m b) ≡ take n (drop m b)
first_part m n b = let e : m + n - m ≡ n = omega arith in ap (λ i. take i (drop m b)) e

pub second_part : (m n : ℕ) (b : List ℕ) → take (length b - (m + n)) (drop (m + n) b) ≡ drop n (drop m b)
second_part m n b = take_rest b (m + n) ∙ sym (drop-drop n m b)
