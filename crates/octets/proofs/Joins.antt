-- Lists of bytes that are joined from short ones, as a digest is from its words.
use Rattle.std.proofs.Common.{◌≡◌, ℕ, zero, suc, ◌+◌, ◌<◌, ◌≤◌, List, [], ◌∷◌, ◌++◌, length, get_or, take, sym, refl, ap, ◌∙◌, arith}
use borrow.Rule.Slice.PartMut.{put_mid}
use Rattle.std.specs.List.{range_with_len, flat_map}
use Rattle.std.proofs.lemmas.List.{flat_map_more, take_more, take_all, append-nil, append_assoc}
use Rattle.std.proofs.lemmas.Slice.{take-put_mid}

-- one more of them is written behind those that stand
pub joined_put : (f : ℕ → List ℕ) (xs out ys : List ℕ) (i p q k : ℕ)
    → take p out ≡ flat_map f (take i xs) → ys ≡ f (get_or xs i 0) → i < length xs → q ≡ p + length ys → p ≤ length out
    → take q (put_mid p k out ys) ≡ flat_map f (take (i + 1) xs)
joined_put f xs out ys i p q k e y l n h =
    take-put_mid p k out ys q n h
    ∙ ap (λ t. t ++ ys) e
    ∙ ap (λ t. flat_map f (take i xs) ++ t) y
    ∙ flat_map_more f [] (take i xs) (get_or xs i 0)
    ∙ ap (flat_map f) (sym (take_more xs i 0 l))

-- all of them stand
pub joined_all : (f : ℕ → List ℕ) (xs out : List ℕ) (i p : ℕ) → take p out ≡ flat_map f (take i xs) → length out ≤ p → length xs ≤ i → out ≡ flat_map f xs
joined_all f xs out i p e l h = sym (take_all p out l) ∙ e ∙ ap (flat_map f) (take_all i xs h)

append_below : (xs ys : List ℕ) (b : ℕ) → ((i : ℕ) → get_or xs i 0 < b) → ((i : ℕ) → get_or ys i 0 < b) → (i : ℕ) → get_or (xs ++ ys) i 0 < b
append_below [] ys b h k i = k i
append_below (x ∷ xs) ys b h k zero = h 0
append_below (x ∷ xs) ys b h k (suc i) = append_below xs ys b (λ j. h (suc j)) k i

-- what is joined from bytes has bytes
pub joined_below : (f : ℕ → List ℕ) (b : ℕ) → 0 < b → ((x i : ℕ) → get_or (f x) i 0 < b) → (xs : List ℕ) (i : ℕ) → get_or (flat_map f xs) i 0 < b
joined_below f b p h [] i = p
joined_below f b p h (x ∷ xs) i = append_below (f x) (flat_map f xs) b (h x) (joined_below f b p h xs) i

-- what is joined depends on the parts alone
pub joined_same : (f g : ℕ → List ℕ) (a n : ℕ) → ((i : ℕ) → i < a + n → f i ≡ g i) → flat_map f (range_with_len a n) ≡ flat_map g (range_with_len a n)
joined_same f g a zero e = refl
joined_same f g a (suc n) e =
    ap (λ x. x ++ flat_map f (range_with_len (a + 1) n)) (e a (omega arith))
    ∙ ap (λ x. g a ++ x) (joined_same f g (a + 1) n (λ i l. e i (omega arith)))

-- one part more at the end
pub joined_last : (f : ℕ → List ℕ) (a n : ℕ) → flat_map f (range_with_len a (n + 1)) ≡ flat_map f (range_with_len a n) ++ f (a + n)
joined_last f a zero = let z : a ≡ a + 0 = omega arith in append-nil (f a) ∙ ap f z
joined_last f a (suc n) =
    let one : suc n + 1 ≡ suc (n + 1) = omega arith in
    let two : a + 1 + n ≡ a + suc n = omega arith in
    ap (λ i. flat_map f (range_with_len a i)) one
    ∙ ap (λ x. f a ++ x) (joined_last f (a + 1) n ∙ ap (λ i. flat_map f (range_with_len (a + 1) n) ++ f i) two)
    ∙ sym (append_assoc (f a) (flat_map f (range_with_len (a + 1) n)) (f (a + suc n)))
