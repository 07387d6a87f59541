-- A message in three parts with its padding as a fourth.
use Rattle.std.proofs.Common.{◌≡◌, ℕ, ◌+◌, ◌/◌, List, ◌++◌, length, sym, ap, ◌∙◌, arith, length-append}

-- what is worked out from the parts, block by block, is what is worked out from the padded message: `pad` gives the padding of a message
-- of so many bytes, `after p n` what comes of n blocks of p, and a block has b bytes
pub padded_all : {X : Type 0} (pad : ℕ → List ℕ) (after : List ℕ → ℕ → X) (b : ℕ) (h l r t : List ℕ) (v : X)
    → t ≡ pad (length h + length l + length r) → v ≡ after (h ++ (l ++ r) ++ t) ((length h + length l + length r + length t) / b)
    → v ≡ after (h ++ (l ++ r) ++ pad (length (h ++ (l ++ r)))) (length (h ++ (l ++ r) ++ pad (length (h ++ (l ++ r)))) / b)
padded_all pad after b h l r t v e q =
    let n : length h + length l + length r ≡ length (h ++ (l ++ r)) = simp length-append (omega arith) in
    let t-is = e ∙ ap pad n in
    let all : length h + length l + length r + length t ≡ length (h ++ (l ++ r) ++ pad (length (h ++ (l ++ r)))) =
    ap (λ m. m + length t) n ∙ sym (length-append (h ++ (l ++ r)) t) ∙ ap (λ x. length (h ++ (l ++ r) ++ x)) t-is in
    q ∙ ap (λ x. after (h ++ (l ++ r) ++ x) ((length h + length l + length r + length t) / b)) t-is
    ∙ ap (λ m. after (h ++ (l ++ r) ++ pad (length (h ++ (l ++ r)))) (m / b)) all
