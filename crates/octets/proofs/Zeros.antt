-- A few bytes written into a block of zeros.
use Rattle.std.proofs.Common.{◌≡◌, ℕ, zero, suc, ◌+◌, ◌-◌, ◌≤◌, List, [], ◌∷◌, ◌++◌, take, set, replicate, ap, ◌∙◌, add-one, arith, length-set}
use lib.ListN.{length-replicate}
use Rattle.std.proofs.lemmas.List.{take-replicate, take_more_set}

-- a byte in front of zeros
pub zeros_behind : (n k v : ℕ) → k + 1 ≤ n → take (k + 1) (set (replicate n 0) 0 v) ≡ v ∷ replicate k 0
zeros_behind zero k v h = absurd (omega arith)
zeros_behind (suc n) k v h = ap (λ i. take i (v ∷ replicate n 0)) (add-one k) ∙ ap (λ l. v ∷ l) (take-replicate k n 0 (omega arith))

between : (n k u v : ℕ) → k + 1 + 1 ≤ n → take (k + 1 + 1) (set (set (replicate n 0) 0 u) (k + 1) v) ≡ u ∷ (replicate k 0 ++ v ∷ [])
between n k u v h =
    take_more_set (set (replicate n 0) 0 u) (k + 1) v (simp (length-set, length-replicate) (omega arith))
    ∙ ap (λ l. l ++ v ∷ []) (zeros_behind n k u (omega arith))

-- zeros between the first and the last of c bytes
pub zeros_between : (n c u v : ℕ) (xs : List ℕ) → xs ≡ replicate n 0 → 2 ≤ c → c ≤ n → take c (set (set xs 0 u) (c - 1) v) ≡ u ∷ (replicate (c - 2) 0 ++ v ∷ [])
zeros_between n c u v xs e l h =
    let m : c - 1 ≡ c - 2 + 1 = omega arith in
    let k : c ≡ c - 2 + 1 + 1 = omega arith in
    ap (λ ys. take c (set (set ys 0 u) (c - 1) v)) e
    ∙ ap (λ i. take c (set (set (replicate n 0) 0 u) i v)) m
    ∙ ap (λ i. take i (set (set (replicate n 0) 0 u) (c - 2 + 1) v)) k
    ∙ between n (c - 2) u v (omega arith)
