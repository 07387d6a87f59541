-- Rows of digests, written one by one.
use Rattle.std.proofs.Common.{◌≡◌, ℕ, suc, ◌+◌, ◌-◌, ◌*◌, ◌/◌, ◌^◌, ◌<◌, ◌≤◌, true, false, ◌&&◌, List, [], ◌++◌, get_or, Some, None, Option, MatchOption, Bor, length, take, drop, sym, ap, ◌∙◌, inl, inr, pow-suc, arith, length-drop}
use Rattle.std.proofs.lemmas.List.{drop-append-le, take-append-le, drop_at, take_at, take_all, drop_all, take-append-drop, append_assoc, append-nil, length-take-le}
use Rattle.std.proofs.lemmas.Bool.{cases_eq, cond-true, le-leb, lt-leb}
use Rattle.std.specs.List.{HoldsAt}
use Rattle.std.specs.Simd.{first_chunks}
use Rattle.octets.specs.Splice.{over, spliced}
use Rattle.octets.proofs.Splices.{spliced_in, take_over}
use Rattle.hash.specs.Digests.{digest_len}
use Rattle.merkle.specs.Tree.{flip}
use Rattle.merkle.specs.Climb.{Node, plain_rule, join_of, slot}
use Rattle.merkle.specs.Layout.{path_of, tree_layout, tree_len}
use Rattle.merkle.proofs.Chunks.{chunks_count, chunk_at}
use Rattle.merkle.proofs.Climbing.{node_start}
use Rattle.layout.specs.Answers.{has_entry, put_at, copied, joined}
use Rattle.merkle.proofs.Layouts.{levels_by, path_more, path_none}

slot_front : (j : ℕ) (xs ys : List ℕ) → digest_len * j + digest_len ≤ length xs → slot j (xs ++ ys) ≡ slot j xs
slot_front j xs ys h =
    ap (take digest_len) (drop-append-le (digest_len * j) xs ys (omega arith))
    ∙ take-append-le digest_len (drop (digest_len * j) xs) ys (simp length-drop (omega arith))

-- a splice of a digest that lies within
pub written_entry : (i : ℕ) (d e xs ys : List ℕ) → ys ≡ spliced (digest_len * i) d xs → d ≡ e → length d ≡ digest_len → digest_len * i + digest_len ≤ length xs → ys ≡ over (digest_len * i) e xs
written_entry i d e xs ys w s l h = w ∙ spliced_in (digest_len * i) d xs (omega arith) ∙ ap (λ z. over (digest_len * i) z xs) s

-- one digest written over a row of them: it stands there, and those before it stay
module _ (i : ℕ) (d xs : List ℕ) (size : length d ≡ digest_len) (within : digest_len * i + digest_len ≤ length xs) where
  pub entry_here : slot i (over (digest_len * i) d xs) ≡ d
  entry_here =
      ap (take digest_len) (drop_at (take (digest_len * i) xs) (d ++ drop (digest_len * i + length d) xs) (digest_len * i) (length-take-le (digest_len * i) xs (omega arith)))
      ∙ take_at d (drop (digest_len * i + length d) xs) digest_len size

  pub entry_before : (j : ℕ) → j < i → slot j (over (digest_len * i) d xs) ≡ slot j xs
  entry_before j l =
      let long : length (take (digest_len * i) xs) ≡ digest_len * i = length-take-le (digest_len * i) xs (omega arith) in
      slot_front j (take (digest_len * i) xs) (d ++ drop (digest_len * i + length d) xs) (omega arith)
      ∙ sym (slot_front j (take (digest_len * i) xs) (drop (digest_len * i) xs) (omega arith))
      ∙ ap (slot j) (take-append-drop (digest_len * i) xs)

-- ---- a tree that grows

-- the entries from n on and below t are each the two joined that they stand over
abbrev pub Grown : (Node → Node → Node) → ℕ → ℕ → List ℕ → Type 0
Grown join n t xs = (j : ℕ) → n ≤ j → j < t → slot j xs ≡ join (slot (2 * (j - n)) xs) (slot (2 * (j - n) + 1) xs)

pub grown_none : (join : Node → Node → Node) (n : ℕ) (xs : List ℕ) → Grown join n (n + 0) xs
grown_none join n xs j b l = absurd (omega arith)

module _ (join : Node → Node → Node) (n i : ℕ) (xs ys : List ℕ) (below : i + 1 < n) (within : digest_len * (n + i) + digest_len ≤ length xs)
    (size : length (join (slot (2 * i) xs) (slot (2 * i + 1) xs)) ≡ digest_len)
    (is : ys ≡ over (digest_len * (n + i)) (join (slot (2 * i) xs) (slot (2 * i + 1) xs)) xs) where
  pub grown_before : (j : ℕ) → j < n + i → slot j ys ≡ slot j xs
  grown_before j l = ap (slot j) is ∙ entry_before (n + i) (join (slot (2 * i) xs) (slot (2 * i + 1) xs)) xs size within j l

  below_pair : (j : ℕ) → 2 * j + 1 < n + i → join (slot (2 * j) xs) (slot (2 * j + 1) xs) ≡ join (slot (2 * j) ys) (slot (2 * j + 1) ys)
  below_pair j l =
      ap (λ z. join z (slot (2 * j + 1) xs)) (sym (grown_before (2 * j) (omega arith)))
      ∙ ap (join (slot (2 * j) ys)) (sym (grown_before (2 * j + 1) l))

  pub grown_more : Grown join n (n + i) xs → Grown join n (n + (i + 1)) ys
  grown_more up j b l =
      elim (cases_eq j (n + i)) [
        | inl e ↦
            let at : i ≡ j - n = omega arith in
            ap (λ k. slot k ys) e
            ∙ ap (slot (n + i)) is
            ∙ entry_here (n + i) (join (slot (2 * i) xs) (slot (2 * i + 1) xs)) xs size within
            ∙ below_pair i (omega arith)
            ∙ ap (λ k. join (slot (2 * k) ys) (slot (2 * k + 1) ys)) at
        | inr ne ↦ grown_before j (omega arith) ∙ up j b (omega arith) ∙ below_pair (j - n) (omega arith)
      ]

pub grown_all : (join : Node → Node → Node) (d n t : ℕ) (xs ys : List ℕ) → n ≡ 2 ^ d → length ys ≡ tree_len d → 2 * n - 1 ≤ t → ((j : ℕ) → j < n → slot j ys ≡ slot j xs) → Grown join n t ys
    → ys ≡ tree_layout join d (λ i. slot i xs)
grown_all join d n t xs ys e long end low up =
    levels_by join (λ i. slot i xs) d 0 ys long (λ i l. low i (omega arith) ∙ sym (node_start join (λ j. slot j xs) i))
    (λ j b l. up j (omega arith) (omega arith) ∙ ap (λ m. join (slot (2 * (j - m)) ys) (slot (2 * (j - m) + 1) ys)) e)

-- ---- a path that is copied

pub halved : (d h w : ℕ) → h < d → w ≡ 2 ^ (d - h) → (w ≡ 2 * 2 ^ (d - (h + 1))) × (w / 2 ≡ 2 ^ (d - (h + 1)))
halved d h w l e =
    let s : d - h ≡ suc (d - (h + 1)) = omega arith in
    let p : w ≡ 2 ^ (d - (h + 1)) * 2 = e ∙ ap (λ k. 2 ^ k) s ∙ pow-suc 2 (d - (h + 1)) in
    (omega arith, omega arith)

-- h siblings are copied, and what is left of the path begins at entry s, in a level of w
pub path_step : (d h p s w : ℕ) (xs out ys all : List ℕ) → h < d → w ≡ 2 ^ (d - h) → digest_len * h + digest_len ≤ length out → length (slot (s + flip p) xs) ≡ digest_len
    → ys ≡ over (digest_len * h) (slot (s + flip p) xs) out
    → take (digest_len * h) out ++ path_of (d - h) p (drop (digest_len * s) xs) ≡ all
    → take (digest_len * (h + 1)) ys ++ path_of (d - (h + 1)) (p / 2) (drop (digest_len * (s + w)) xs) ≡ all
path_step d h p s w xs out ys all l e within size is inv =
    let k = d - (h + 1) in
    let one : d - h ≡ suc k = omega arith in
    let S = slot (s + flip p) xs in
    let rest = path_of k (p / 2) (drop (digest_len * (s + w)) xs) in
    ap (λ z. take (digest_len * (h + 1)) z ++ rest) is
    ∙ ap (λ z. z ++ rest) (take_over (digest_len * h) S out (omega arith) (digest_len * (h + 1)) (omega arith))
    ∙ append_assoc (take (digest_len * h) out) S rest
    ∙ ap (λ z. take (digest_len * h) out ++ z) (sym (path_more k p s w xs (e ∙ ap (λ m. 2 ^ m) one)))
    ∙ ap (λ m. take (digest_len * h) out ++ path_of m p (drop (digest_len * s) xs)) (sym one)
    ∙ inv

pub path_end : (d h p s : ℕ) (xs out all : List ℕ) → d ≤ h → length out ≤ digest_len * h → take (digest_len * h) out ++ path_of (d - h) p (drop (digest_len * s) xs) ≡ all → out ≡ all
path_end d h p s xs out all l long inv =
    let none : d - h ≡ 0 = omega arith in
    sym (take_all (digest_len * h) out long)
    ∙ sym (append-nil (take (digest_len * h) out))
    ∙ ap (λ z. take (digest_len * h) out ++ z) (sym (path_none p (drop (digest_len * s) xs)))
    ∙ ap (λ m. take (digest_len * h) out ++ path_of m p (drop (digest_len * s) xs)) (sym none)
    ∙ inv

-- a digest written over a whole buffer
pub entry_whole : (part out : List ℕ) → length part ≡ length out → over (digest_len * 0) part out ≡ part
entry_whole part out h = ap (λ z. part ++ z) (drop_all (0 + length part) out (omega arith)) ∙ append-nil part

-- what is lent of a row as its entry i
pub entry_lent : (i : ℕ) (row : List ℕ) (chunks : List (List ℕ)) (r : Option (Bor (List ℕ))) → chunks ≡ first_chunks digest_len (length row / digest_len) row
    → MatchOption r (length chunks ≤ i) (λ x. (i < length chunks) × HoldsAt (λ y. x.now ≡ y) chunks i)
    → MatchOption r (has_entry i (length row) ≡ false) (λ x. (has_entry i (length row) ≡ true) × (x.now ≡ slot i row))
entry_lent i row chunks None e h =
    let n = ap length e ∙ chunks_count (length row / digest_len) row in
    lt-leb (digest_len * i + digest_len) (length row) (omega arith)
entry_lent i row chunks (Some x) e h =
    let n = ap length e ∙ chunks_count (length row / digest_len) row in (
      le-leb (digest_len * i + digest_len) (length row) (omega arith),
      h.1 [] ∙ ap (λ c. get_or c i []) e ∙ chunk_at (length row / digest_len) i row [] (omega arith),
    )

-- where the entries are there, they are copied and joined
pub copied_in : (i k : ℕ) (row out : List ℕ) → digest_len * i + digest_len ≤ length row → digest_len * k + digest_len ≤ length out → copied i row k out ≡ over (digest_len * k) (slot i row) out
copied_in i k row out h l =
    cond-true (has_entry i (length row)) (put_at k (slot i row) out) out (le-leb (digest_len * i + digest_len) (length row) h)
    ∙ cond-true (has_entry k (length out)) (over (digest_len * k) (slot i row) out) out (le-leb (digest_len * k + digest_len) (length out) l)

pub joined_in : (f : List ℕ → List ℕ) (i j k : ℕ) (row : List ℕ) → digest_len * i + digest_len ≤ length row → digest_len * j + digest_len ≤ length row → digest_len * k + digest_len ≤ length row
    → joined f i j k row ≡ over (digest_len * k) (join_of plain_rule f (slot i row) (slot j row)) row
joined_in f i j k row h g l =
    let node = join_of plain_rule f (slot i row) (slot j row) in
    cond-true (has_entry i (length row) && has_entry j (length row)) (put_at k node row) row
    (ap (λ b. b && has_entry j (length row)) (le-leb (digest_len * i + digest_len) (length row) h) ∙ le-leb (digest_len * j + digest_len) (length row) g)
    ∙ cond-true (has_entry k (length row)) (over (digest_len * k) node row) row (le-leb (digest_len * k + digest_len) (length row) l)
