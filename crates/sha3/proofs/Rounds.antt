-- One round more.
use Rattle.std.proofs.Common.{◌≡◌, ℕ, ◌+◌, ◌<◌, ◌≤◌, List, [], ◌∷◌, ◌++◌, length, get_or, take, sym, refl, ap, ◌∙◌}
use Rattle.std.proofs.lemmas.List.{take_more, take_all}
use Rattle.sha3.specs.Keccak.{round_of, rounds}

rounds_push : (cs : List ℕ) (c : ℕ) (s : List ℕ) → rounds (cs ++ c ∷ []) s ≡ round_of (rounds cs s) c
rounds_push [] c s = refl
rounds_push (x ∷ cs) c s = rounds_push cs c (round_of s x)

pub more : (cs s t u : List ℕ) (i : ℕ) → i < length cs → t ≡ rounds (take i cs) s → u ≡ round_of t (get_or cs i 0) → u ≡ rounds (take (i + 1) cs) s
more cs s t u i h p q = q ∙ ap (λ l. round_of l (get_or cs i 0)) p ∙ sym (rounds_push (take i cs) (get_or cs i 0) s) ∙ ap (λ l. rounds l s) (sym (take_more cs i 0 h))

pub done : (cs s t : List ℕ) (i : ℕ) → length cs ≤ i → t ≡ rounds (take i cs) s → t ≡ rounds cs s
done cs s t i h p = p ∙ ap (λ l. rounds l s) (take_all i cs h)
