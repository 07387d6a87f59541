-- Four parts written one behind the other, to the end of a target.
use Rattle.std.proofs.Common.{◌≡◌, ℕ, ◌≤◌, List, ◌++◌, length, take, sym, ap, ◌∙◌, append_assoc}
use Rattle.std.proofs.lemmas.List.{take_all}

pub four_parts : (out₀ out₁ out₂ out₃ out₄ h f a b : List ℕ) (n₁ n₂ n₃ n₄ : ℕ)
    → take n₁ out₁ ≡ take 0 out₀ ++ h → take n₂ out₂ ≡ take n₁ out₁ ++ f → take n₃ out₃ ≡ take n₂ out₂ ++ a → take n₄ out₄ ≡ take n₃ out₃ ++ b
    → length out₄ ≤ n₄ → out₄ ≡ h ++ (f ++ (a ++ b))
four_parts out₀ out₁ out₂ out₃ out₄ h f a b n₁ n₂ n₃ n₄ p q r s le =
    sym (take_all n₄ out₄ le) ∙ s ∙ ap (λ l. l ++ b) (r ∙ ap (λ l. l ++ a) (q ∙ ap (λ l. l ++ f) p)) ∙ simp append_assoc
