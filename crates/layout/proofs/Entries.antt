-- A row of digests that is written entry by entry.
use Rattle.std.proofs.Common.{◌≡◌, ℕ, zero, suc, ◌+◌, ◌*◌, ◌<◌, ◌≤◌, List, ◌++◌, length, drop, sym, ap, ◌∙◌, inl, inr, arith, length-drop}
use Rattle.std.specs.List.{range_with_len, flat_map}
use Rattle.std.proofs.lemmas.List.{nil_from_length, take-append-drop, take_at, drop_at}
use Rattle.std.proofs.lemmas.Bool.{cases_eq}
use Rattle.octets.specs.Splice.{over}
use Rattle.hash.specs.Digests.{digest_len}
use Rattle.merkle.specs.Climb.{Node, slot}
use Rattle.merkle.proofs.Layouts.{slot_drop}
use Rattle.layout.proofs.Rows.{entry_here, entry_before}

-- one entry more
pub entries_more : (g : ℕ → Node) (i : ℕ) (xs ys : List ℕ) → ys ≡ over (digest_len * i) (g i) xs → length (g i) ≡ digest_len → digest_len * i + digest_len ≤ length xs
    → ((j : ℕ) → j < i → slot j xs ≡ g j) → (j : ℕ) → j < i + 1 → slot j ys ≡ g j
entries_more g i xs ys e size within before j l =
    ap (slot j) e
    ∙ elim (cases_eq j i) [
      | inl s ↦ ap (λ k. slot k (over (digest_len * i) (g i) xs)) s ∙ entry_here i (g i) xs size within ∙ ap g (sym s)
      | inr n ↦ entry_before i (g i) xs size within j (omega arith) ∙ before j (omega arith)
    ]

-- all entries
pub entries_all : (g : ℕ → Node) (a n : ℕ) (xs : List ℕ) → length xs ≡ digest_len * n → ((j : ℕ) → j < n → slot j xs ≡ g (a + j)) → xs ≡ flat_map g (range_with_len a n)
entries_all g a zero xs l h = nil_from_length xs l
entries_all g a (suc n) xs l h =
    let long : length (drop digest_len xs) ≡ digest_len * n = simp length-drop (omega arith) in
    sym (take-append-drop digest_len xs)
    ∙ ap (λ ys. ys ++ drop digest_len xs) (h 0 (omega arith) ∙ ap g (omega arith))
    ∙ ap (λ ys. g a ++ ys)
    (entries_all g (a + 1) n (drop digest_len xs) long (λ j b. slot_drop j 1 xs ∙ h (1 + j) (omega arith) ∙ ap g (omega arith)))

-- an entry of what is joined
pub entries_at : (g : ℕ → Node) (a n : ℕ) → ((i : ℕ) → length (g i) ≡ digest_len) → (j : ℕ) → j < n → slot j (flat_map g (range_with_len a n)) ≡ g (a + j)
entries_at g a zero size j l = absurd (omega arith)
entries_at g a (suc n) size zero l =
    take_at (g a) (flat_map g (range_with_len (a + 1) n)) digest_len (size a) ∙ ap g (omega arith)
entries_at g a (suc n) size (suc j) l =
    ap (λ k. slot k (flat_map g (range_with_len a (suc n)))) (omega arith)
    ∙ sym (slot_drop j 1 (flat_map g (range_with_len a (suc n))))
    ∙ ap (slot j) (drop_at (g a) (flat_map g (range_with_len (a + 1) n)) digest_len (size a))
    ∙ entries_at g (a + 1) n size j (omega arith)
    ∙ ap g (omega arith)
