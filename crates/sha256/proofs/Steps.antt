-- The steps of the loops.
use Rattle.std.proofs.Common.{◌≡◌, ℕ, suc, ◌+◌, ◌-◌, ◌<◌, ◌≤◌, List, [], ◌∷◌, ◌++◌, length, get_or, take, set, drop, sym, refl, ap, ◌∙◌, add-one, arith, get_or-take, length-drop, drop-cons}
use native.Mathlib.Nat.{}
use Rattle.std.proofs.lemmas.List.{take_more, take_more_set}
use Rattle.sha256.specs.Compression.{round_of, constants, up_to, next_word, extended}

pub up_to_more : (ws v t u : List ℕ) (i : ℕ) → t ≡ up_to ws v i → u ≡ round_of t (get_or constants i 0) (get_or ws i 0) → u ≡ up_to ws v (i + 1)
unfolding up_to
up_to_more ws v t u i p q = q ∙ ap (λ l. round_of l (get_or constants i 0) (get_or ws i 0)) p ∙ ap (up_to ws v) (sym (add-one i))

-- the next word looks only at the words before it
next_take : (w : List ℕ) (j : ℕ) → 16 ≤ j → next_word j (take j w) ≡ next_word j w
next_take w j h =
    let a = get_or-take j w (j - 2) 0 (omega arith) in
    let b = get_or-take j w (j - 7) 0 (omega arith) in
    let c = get_or-take j w (j - 15) 0 (omega arith) in
    let d = get_or-take j w (j - 16) 0 (omega arith) in
    cc

pub start : (m : List ℕ) → m ≡ extended 0 m
unfolding extended
start m = refl

pub extend_more : (m w : List ℕ) (j : ℕ) → 16 ≤ j → j < length w → take j w ≡ extended (j - 16) m → take (j + 1) (set w j (next_word j w)) ≡ extended (j + 1 - 16) m
unfolding extended
extend_more m w j h lt p =
    let n : j + 1 - 16 ≡ suc (j - 16) = omega arith in
    let k : j ≡ 16 + (j - 16) = omega arith in
    take_more_set w j (next_word j w) lt
    ∙ ap (λ x. take j w ++ x ∷ []) (sym (next_take w j h))
    ∙ ap (λ l. l ++ next_word j l ∷ []) p
    ∙ ap (λ i. extended (j - 16) m ++ next_word i (extended (j - 16) m) ∷ []) k
    ∙ ap (λ i. extended i m) (sym n)

pub copy_more : (m w : List ℕ) (i : ℕ) → i < length w → i < length m → take i w ≡ take i m → take (i + 1) (set w i (get_or m i 0)) ≡ take (i + 1) m
copy_more m w i lw lm p = take_more_set w i (get_or m i 0) lw ∙ ap (λ l. l ++ get_or m i 0 ∷ []) p ∙ sym (take_more m i 0 lm)

-- what is left of a list from place n on begins with its item n
pub record Dropped (n : ℕ) (xs : List ℕ) (x : ℕ) (ys : List ℕ) : Type 0 where
  pub inside : n < length xs
  pub here : x ≡ get_or xs n 0
  pub rest : ys ≡ drop (n + 1) xs

pub dropped : (n : ℕ) (xs : List ℕ) (x : ℕ) (ys : List ℕ) → x ∷ ys ≡ drop n xs → Dropped n xs x ys
dropped n xs x ys e =
    let long : suc (length ys) ≡ length xs - n = ap length e ∙ length-drop n xs in
    let l : n < length xs = omega arith in
    let d = drop-cons xs n 0 l in
    let one = add-one n in
    record { inside = l; here = cc; rest = cc }
