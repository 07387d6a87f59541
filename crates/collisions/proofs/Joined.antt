-- Joined strings, as they are written and compared.
use Rattle.std.proofs.Common.{◌≡◌, ℕ, suc, ◌+◌, ◌<◌, Bool, true, false, ◌&&◌, eqb, List, [], ◌∷◌, ◌++◌, length, take, drop, sym, refl, ap, ◌∙◌, one-add, arith, length-append}
use Rattle.std.specs.Str.{bytes_eq}
use Rattle.std.proofs.lemmas.List.{take_at, drop_at, drop-drop, append_assoc}
use Rattle.merkle.specs.Tree.{Side, right, left}
use Rattle.merkle.specs.Climb.{plain_rule, beside, input}

-- three writes, one after another
pub joined_put :
    (lead : ℕ) (l r out o₁ o₂ o₃ : List ℕ) →
    0 < length out →
    o₁ ≡ lead ∷ drop 1 out →
    o₂ ≡ take 1 o₁ ++ (l ++ drop (1 + length l) o₁) →
    o₃ ≡ take (1 + length l) o₂ ++ (r ++ drop (1 + length l + length r) o₂) →
    o₃ ≡ (lead ∷ (l ++ r)) ++ drop (suc (length (l ++ r))) out
joined_put lead l r [] o₁ o₂ o₃ h e₁ e₂ e₃ = absurd (omega arith)
joined_put lead l r (x ∷ xs) o₁ o₂ o₃ h e₁ e₂ e₃ =
    let n = length l in
    let rest = drop n xs in
    let f₂ : o₂ ≡ lead ∷ (l ++ rest) =
    e₂ ∙ ap (λ o. take 1 o ++ (l ++ drop (1 + n) o)) e₁ ∙ ap (λ k. lead ∷ (l ++ drop k (lead ∷ xs))) (one-add n) in
    let more : 1 + n + length r ≡ suc (n + length r) = omega arith in
    let after : drop (n + length r) (l ++ rest) ≡ drop (length (l ++ r)) xs =
    sym (drop-drop (length r) n (l ++ rest)) ∙ ap (drop (length r)) (drop_at l rest n refl) ∙ drop-drop (length r) n xs
    ∙ ap (λ k. drop k xs) (sym (length-append l r)) in
    e₃
    ∙ ap (λ o. take (1 + n) o ++ (r ++ drop (1 + n + length r) o)) f₂
    ∙ ap (λ k. take k (lead ∷ (l ++ rest)) ++ (r ++ drop (1 + n + length r) (lead ∷ (l ++ rest)))) (one-add n)
    ∙ ap (λ z. (lead ∷ z) ++ (r ++ drop (1 + n + length r) (lead ∷ (l ++ rest)))) (take_at l rest n refl)
    ∙ ap (λ k. (lead ∷ l) ++ (r ++ drop k (lead ∷ (l ++ rest)))) more
    ∙ ap (λ z. (lead ∷ l) ++ (r ++ z)) after
    ∙ ap (λ z. lead ∷ z) (sym (append_assoc l r (drop (length (l ++ r)) xs)))

and_assoc : (a b c : Bool) → (a && (b && c)) ≡ ((a && b) && c)
and_assoc true b c = refl
and_assoc false b c = refl

and_swap : (a b : Bool) → (a && b) ≡ (b && a)
and_swap true true = refl
and_swap true false = refl
and_swap false true = refl
and_swap false false = refl

pub same_append : (x x' y y' : List ℕ) → length x ≡ length x' → bytes_eq (x ++ y) (x' ++ y') ≡ (bytes_eq x x' && bytes_eq y y')
same_append [] [] y y' h = refl
same_append [] (b ∷ x') y y' h = absurd (omega arith)
same_append (a ∷ x) [] y y' h = absurd (omega arith)
same_append (a ∷ x) (b ∷ x') y y' h =
    ap (λ t. eqb a b && t) (same_append x x' y y' (omega arith)) ∙ and_assoc (eqb a b) (bytes_eq x x') (bytes_eq y y')

-- what is hashed for two pairs is equal where their parts are
pub same_pairs : (s : Side) (x x' y y' : List ℕ) → length x ≡ length x' → length y ≡ length y' → bytes_eq (input plain_rule (beside s y) x) (input plain_rule (beside s y') x') ≡ (bytes_eq x x' && bytes_eq y y')
same_pairs right x x' y y' h k = same_append x x' y y' h
same_pairs left x x' y y' h k = same_append y y' x x' k ∙ and_swap (bytes_eq y y') (bytes_eq x x')

pub and_true : (x y : Bool) → x ≡ true → y ≡ (x && y)
and_true x y e = rw e
