-- The digests of the weak hash. The laws stand here, since of its own crate an impl may name what stands in the specs, and not its proofs.
use Rattle.std.specs.Prelude.{◌≡◌, ℕ, zero, suc, ◌%◌, ◌<◌, ◌≤◌, List, length, set, replicate, nat_lt, slice_index, slice_set, refl}
use Rattle.std.proofs.Common.{ap, ◌∙◌, inl, inr, arith}
use Rattle.std.proofs.lemmas.Nat.{mod_below}
use Rattle.std.proofs.lemmas.List.{get_or_past, get_or-replicate, length-replicate}
use Rattle.std.proofs.lemmas.Bool.{cases_Bool, ltb-true, ltb-false}
use Rattle.weakhash.specs.Weak.{weakened}

pub few_sized : (d : List ℕ) → length (weakened d) ≡ 32
unfolding weakened
few_sized d = refl

zeros_below : (n i : ℕ) → slice_index (replicate {A = ℕ} n 0) i < 256
zeros_below n i = elim (cases_Bool (nat_lt i n)) [
  | inl t ↦ let e = get_or-replicate {A = ℕ} n i 0 0 (ltb-true i n t) in omega arith
  | inr f ↦ let m = length-replicate {A = ℕ} n 0 in let q = ltb-false i n f in let le : length (replicate {A = ℕ} n 0) ≤ i = omega arith in let e = get_or_past (replicate {A = ℕ} n 0) i 0 le in omega arith
]

pub few_bytes : (d : List ℕ) (i : ℕ) → slice_index (weakened d) i < 256
unfolding weakened
few_bytes d zero = let m = mod_below (slice_index d 0) 16 (omega arith) in omega arith
few_bytes d (suc i) = zeros_below 31 i

pub few_set : (out zeros : List ℕ) → length out ≡ 32 → zeros ≡ replicate (length out) 0 → slice_set zeros 0 (slice_index out 0 % 16) ≡ weakened out
unfolding weakened
few_set out zeros n e = ap (λ z. set z 0 (slice_index out 0 % 16)) (e ∙ ap (λ m. replicate m 0) n)
