-- Trees laid out in bytes.
use Rattle.std.proofs.Common.{◌≡◌, ℕ, zero, suc, ◌+◌, ◌-◌, ◌*◌, ◌/◌, ◌%◌, ◌^◌, ◌<◌, ◌≤◌, List, [], ◌∷◌, ◌++◌, length, take, drop, sym, refl, ap, ◌∙◌, inl, inr, pow-suc, arith, length-append, length-drop, take-add, pow_mono}
use native.Mathlib.Nat.{sub-zero}
use Rattle.std.specs.List.{range_with_len, flat_map}
use Rattle.std.proofs.lemmas.List.{drop-drop, drop_at, take_at, take_all, take-take, take-append-drop, append_assoc, length-take-le}
use Rattle.std.proofs.lemmas.Bool.{cases_eq}
use Rattle.hash.specs.Digests.{digest_len}
use Rattle.merkle.specs.Tree.{node, root, path, siblings, flip, sides}
use Rattle.merkle.specs.Climb.{Node, plain_rule, join_of, slot, slots, rungs, alone, climb, levels, from_node, from_leaf}
use Rattle.merkle.specs.Layout.{level, levels_from, tree_layout, tree_len, level_start, path_of}
use Rattle.merkle.specs.Laws.{LayoutsStand, FrontStands, ClimbsBoth}
use Rattle.merkle.proofs.Climbing.{node_start, node_more, flip_even, flip_odd, climbs_own, climb_append}
use Rattle.merkle.proofs.Steps.{slot_length, slots_take, climb_more}

-- ---- digests in a row

pub slot_drop : (i k : ℕ) (xs : List ℕ) → slot i (drop (digest_len * k) xs) ≡ slot (k + i) xs
slot_drop i k xs = ap (take digest_len) (drop-drop (digest_len * i) (digest_len * k) xs) ∙ ap (λ m. take digest_len (drop m xs)) (omega arith)

-- behind n digests
slot_behind : (i n : ℕ) (xs ys : List ℕ) → length xs ≡ digest_len * n → slot (n + i) (xs ++ ys) ≡ slot i ys
slot_behind i n xs ys h = sym (slot_drop i n (xs ++ ys)) ∙ ap (slot i) (drop_at xs ys (digest_len * n) h)

-- n digests in front are what they are one by one
joined_slots : (g : ℕ → Node) (a n : ℕ) (xs : List ℕ) → digest_len * n ≤ length xs → ((i : ℕ) → i < n → slot i xs ≡ g (a + i)) → take (digest_len * n) xs ≡ flat_map g (range_with_len a n)
joined_slots g a zero xs h all = refl
joined_slots g a (suc n) xs h all =
    let e : digest_len * suc n ≡ digest_len + digest_len * n = omega arith in
    ap (λ m. take m xs) e
    ∙ take-add digest_len (digest_len * n) xs
    ∙ ap (λ z. z ++ take (digest_len * n) (drop digest_len xs)) (all 0 (omega arith) ∙ ap g (omega arith))
    ∙ ap (λ z. g a ++ z)
    (joined_slots g (a + 1) n (drop digest_len xs) (simp length-drop (omega arith))
    (λ i l. slot_drop i 1 xs ∙ all (1 + i) (omega arith) ∙ ap g (omega arith)))

joined_length : (g : ℕ → Node) (a n : ℕ) → ((i : ℕ) → i < n → length (g (a + i)) ≡ digest_len) → length (flat_map g (range_with_len a n)) ≡ digest_len * n
joined_length g a zero all = refl
joined_length g a (suc n) all =
    let one : length (g a) ≡ digest_len = ap (λ k. length (g k)) (omega arith) ∙ all 0 (omega arith) in
    let more = joined_length g (a + 1) n (λ i l. ap (λ k. length (g k)) (omega arith) ∙ all (suc i) (omega arith)) in
    length-append (g a) (flat_map g (range_with_len (a + 1) n)) ∙ omega arith

slot_joined : (g : ℕ → Node) (a n i : ℕ) (ys : List ℕ) → i < n → ((j : ℕ) → j < n → length (g (a + j)) ≡ digest_len) → slot i (flat_map g (range_with_len a n) ++ ys) ≡ g (a + i)
slot_joined g a zero i ys l all = absurd (omega arith)
slot_joined g a (suc n) zero ys l all =
    let one : length (g a) ≡ digest_len = ap (λ k. length (g k)) (omega arith) ∙ all 0 (omega arith) in
    ap (take digest_len) (append_assoc (g a) (flat_map g (range_with_len (a + 1) n)) ys)
    ∙ take_at (g a) (flat_map g (range_with_len (a + 1) n) ++ ys) digest_len one
    ∙ ap g (omega arith)
slot_joined g a (suc n) (suc i) ys l all =
    let one : length (g a) ≡ digest_len * 1 = ap (λ k. length (g k)) (omega arith) ∙ all 0 (omega arith) in
    let s : suc i ≡ 1 + i = omega arith in
    ap (slot (suc i)) (append_assoc (g a) (flat_map g (range_with_len (a + 1) n)) ys)
    ∙ ap (λ k. slot k (g a ++ (flat_map g (range_with_len (a + 1) n) ++ ys))) s
    ∙ slot_behind i 1 (g a) (flat_map g (range_with_len (a + 1) n) ++ ys) one
    ∙ slot_joined g (a + 1) n i ys (omega arith) (λ j k. ap (λ m. length (g m)) (omega arith) ∙ all (suc j) (omega arith))
    ∙ ap g (omega arith)

-- a sibling stands in its level
pub flip_below : (p m n : ℕ) → p < n → n ≡ 2 * m → flip p < n
flip_below p m n h e =
    elim (cases_eq (p % 2) 0) [
      | inl z ↦ omega (arith, flip_even p z)
      | inr o ↦ omega (arith, flip_odd p o)
    ]

-- ---- layouts

module _ (join : Node → Node → Node) (leaf : ℕ → Node) where
  -- bytes whose entries are the nodes of one height and then, each, the two joined that it stands over, are the levels from that height up
  pub levels_by : (k h : ℕ) (xs : List ℕ) → length xs ≡ tree_len k → ((i : ℕ) → i < 2 ^ k → slot i xs ≡ node join leaf h i)
      → ((j : ℕ) → 2 ^ k ≤ j → j < 2 * 2 ^ k - 1 → slot j xs ≡ join (slot (2 * (j - 2 ^ k)) xs) (slot (2 * (j - 2 ^ k) + 1) xs))
      → xs ≡ levels_from join leaf h k
  unfolding levels_from level
  levels_by zero h xs long low high = sym (take_all digest_len xs (omega arith)) ∙ low 0 (omega arith)
  levels_by (suc k) h xs long low high =
      let n = 2 ^ k in
      let w = 2 ^ suc k in
      let e : w ≡ n * 2 = pow-suc 2 k in
      let ys = drop (digest_len * w) xs in
      sym (take-append-drop (digest_len * w) xs)
      ∙ ap (λ z. z ++ ys) (joined_slots (node join leaf h) 0 w xs (omega arith) (λ i l. low i l ∙ ap (node join leaf h) (omega arith)))
      ∙ ap (λ z. level join leaf h w ++ z)
      (levels_by k (h + 1) ys (length-drop (digest_len * w) xs ∙ omega arith)
      (λ i l.
      let at : 2 * (w + i - w) ≡ 2 * i = omega arith in
      slot_drop i w xs
      ∙ high (w + i) (omega arith) (omega arith)
      ∙ ap (λ m. join (slot m xs) (slot (m + 1) xs)) at
      ∙ ap (λ z. join z (slot (2 * i + 1) xs)) (low (2 * i) (omega arith))
      ∙ ap (join (node join leaf h (2 * i))) (low (2 * i + 1) (omega arith))
      ∙ sym (node_more join leaf h i))
      (λ j l b.
      let at : 2 * (w + j - w) ≡ w + 2 * (j - n) = omega arith in
      let up : w + 2 * (j - n) + 1 ≡ w + (2 * (j - n) + 1) = omega arith in
      slot_drop j w xs
      ∙ high (w + j) (omega arith) (omega arith)
      ∙ ap (λ m. join (slot m xs) (slot (m + 1) xs)) at
      ∙ ap (λ m. join (slot (w + 2 * (j - n)) xs) (slot m xs)) up
      ∙ ap (λ z. join z (slot (w + (2 * (j - n) + 1)) xs)) (sym (slot_drop (2 * (j - n)) w xs))
      ∙ ap (join (slot (2 * (j - n)) ys)) (sym (slot_drop (2 * (j - n) + 1) w xs))))

  module _ (long : (x y : Node) → length (join x y) ≡ digest_len) where
    next_long : (h i : ℕ) → length (node join leaf (h + 1) i) ≡ digest_len
    next_long h i = ap length (node_more join leaf h i) ∙ long _ _

    level_long : (h n : ℕ) → ((i : ℕ) → i < n → length (node join leaf h i) ≡ digest_len) → length (level join leaf h n) ≡ digest_len * n
    unfolding level
    level_long h n all = joined_length (node join leaf h) 0 n (λ i l. ap (λ k. length (node join leaf h k)) (omega arith) ∙ all i l)

    slot_level : (h n i : ℕ) (ys : List ℕ) → i < n → ((j : ℕ) → j < n → length (node join leaf h j) ≡ digest_len) → slot i (level join leaf h n ++ ys) ≡ node join leaf h i
    unfolding level
    slot_level h n i ys l all =
        slot_joined (node join leaf h) 0 n i ys l (λ j k. ap (λ m. length (node join leaf h m)) (omega arith) ∙ all j k)
        ∙ ap (node join leaf h) (omega arith)

    levels_long : (k h : ℕ) → ((i : ℕ) → i < 2 ^ k → length (node join leaf h i) ≡ digest_len) → length (levels_from join leaf h k) ≡ tree_len k
    unfolding levels_from
    levels_long zero h all = all 0 (omega arith)
    levels_long (suc k) h all =
        let e : 2 ^ suc k ≡ 2 ^ k * 2 = pow-suc 2 k in
        let a = level_long h (2 ^ suc k) all in
        let b = levels_long k (h + 1) (λ i l. next_long h i) in
        let p : 1 ≤ 2 ^ k = pow_mono {i = 0} {j = k} (omega arith) in
        length-append (level join leaf h (2 ^ suc k)) (levels_from join leaf (h + 1) k) ∙ omega arith

    levels_entry : (k h m i : ℕ) → ((j : ℕ) → j < 2 ^ k → length (node join leaf h j) ≡ digest_len) → m ≤ k → i < 2 ^ (k - m)
        → slot (level_start k m + i) (levels_from join leaf h k) ≡ node join leaf (h + m) i
    unfolding levels_from
    levels_entry zero h m i all b l =
        let none_left : 0 - m ≡ 0 = omega arith in
        let one : 2 ^ (0 - m) ≡ 1 = ap (λ n. 2 ^ n) none_left in
        let at : 2 * 1 - 2 * 2 ^ (0 - m) + i ≡ 0 = omega arith in
        let none : i ≡ 0 = omega arith in
        ap (λ n. slot n (node join leaf h 0)) at
        ∙ take_all digest_len (node join leaf h 0) (omega (arith, all 0 (omega arith)))
        ∙ ap (λ n. node join leaf n 0) (omega arith)
        ∙ ap (node join leaf (h + m)) (sym none)
    levels_entry (suc k) h zero i all b l =
        let same : 2 ^ (suc k - 0) ≡ 2 ^ suc k = ap (λ n. 2 ^ n) (sub-zero (suc k)) in
        let at : level_start (suc k) 0 + i ≡ i = omega arith in
        ap (λ n. slot n (level join leaf h (2 ^ suc k) ++ levels_from join leaf (h + 1) k)) at
        ∙ slot_level h (2 ^ suc k) i (levels_from join leaf (h + 1) k) (omega arith) all
        ∙ ap (λ n. node join leaf n i) (omega arith)
    levels_entry (suc k) h (suc m) i all b l =
        let e : 2 ^ suc k ≡ 2 ^ k * 2 = pow-suc 2 k in
        let less : 2 ^ (k - m) ≤ 2 ^ k = pow_mono (omega arith) in
        let same : 2 ^ (suc k - suc m) ≡ 2 ^ (k - m) = ap (λ n. 2 ^ n) (omega arith) in
        let at : level_start (suc k) (suc m) + i ≡ 2 ^ suc k + (level_start k m + i) = omega arith in
        ap (λ n. slot n (level join leaf h (2 ^ suc k) ++ levels_from join leaf (h + 1) k)) at
        ∙ slot_behind (level_start k m + i) (2 ^ suc k) (level join leaf h (2 ^ suc k)) (levels_from join leaf (h + 1) k) (level_long h (2 ^ suc k) all)
        ∙ levels_entry k (h + 1) m i (λ j k'. next_long h j) (omega arith) (omega arith)
        ∙ ap (λ n. node join leaf n i) (omega arith)

    levels_path : (k h p : ℕ) → p < 2 ^ k → ((i : ℕ) → i < 2 ^ k → length (node join leaf h i) ≡ digest_len)
        → slots k (path_of k p (levels_from join leaf h k)) ≡ siblings join leaf h k p
    unfolding levels_from path_of slots siblings
    levels_path zero h p l all = refl
    levels_path (suc k) h p l all =
        let n = 2 ^ k in
        let w = 2 ^ suc k in
        let e : w ≡ n * 2 = pow-suc 2 k in
        let front = level join leaf h w in
        let rest = levels_from join leaf (h + 1) k in
        let within : flip p < w = flip_below p n w l (omega arith) in
        let here : slot (flip p) (front ++ rest) ≡ node join leaf h (flip p) = slot_level h w (flip p) rest within all in
        let size : length (slot (flip p) (front ++ rest)) ≡ digest_len = ap length here ∙ all (flip p) within in
        let up = path_of k (p / 2) (drop (digest_len * w) (front ++ rest)) in
        ap (λ z. z ∷ slots k (drop digest_len (slot (flip p) (front ++ rest) ++ up))) (take_at (slot (flip p) (front ++ rest)) up digest_len size ∙ here)
        ∙ ap (λ z. node join leaf h (flip p) ∷ slots k z) (drop_at (slot (flip p) (front ++ rest)) up digest_len size)
        ∙ ap (λ z. node join leaf h (flip p) ∷ slots k (path_of k (p / 2) z)) (drop_at front rest (digest_len * w) (level_long h w all))
        ∙ ap (λ z. node join leaf h (flip p) ∷ z) (levels_path k (h + 1) (p / 2) (omega arith) (λ i b. next_long h i))

-- a path's length, whatever the bytes are that it is cut from
pub path_long : (d p : ℕ) (xs : List ℕ) → p < 2 ^ d → tree_len d ≤ length xs → length (path_of d p xs) ≡ digest_len * d
unfolding path_of
path_long zero p xs l h = refl
path_long (suc k) p xs l h =
    let n = 2 ^ k in
    let w = 2 ^ suc k in
    let e : w ≡ n * 2 = pow-suc 2 k in
    let within : flip p < w = flip_below p n w l (omega arith) in
    let here : length (slot (flip p) xs) ≡ digest_len = slot_length (flip p) xs (omega arith) in
    let rest : length (drop (digest_len * w) xs) ≡ length xs - digest_len * w = length-drop (digest_len * w) xs in
    let up = path_long k (p / 2) (drop (digest_len * w) xs) (omega arith) (omega arith) in
    length-append (slot (flip p) xs) (path_of k (p / 2) (drop (digest_len * w) xs)) ∙ omega arith

pub layouts_stand : (f : List ℕ → List ℕ) → ((m : List ℕ) → length (f m) ≡ digest_len) → LayoutsStand f
layouts_stand f sized d leaf all =
    let J = join_of plain_rule f in
    let long : (x y : Node) → length (J x y) ≡ digest_len = λ x y. sized _ in
    let low : (i : ℕ) → i < 2 ^ d → length (node J leaf 0 i) ≡ digest_len = λ i l. ap length (node_start J leaf i) ∙ all i l in
    let entries : (h i : ℕ) → h ≤ d → i < 2 ^ (d - h) → slot (level_start d h + i) (tree_layout J d leaf) ≡ node J leaf h i =
    λ h i b l. levels_entry J leaf long d 0 h i low b l ∙ ap (λ n. node J leaf n i) (omega arith) in
    let none_left : d - d ≡ 0 = omega arith in
    let one : 2 ^ (d - d) ≡ 1 = ap (λ n. 2 ^ n) none_left in
    let own : (p : ℕ) → p < 2 ^ d → slots d (path_of d p (tree_layout J d leaf)) ≡ path J d leaf p = λ p l. levels_path J leaf long d 0 p l low in
    let size = levels_long J leaf long d 0 low in
    let path-size : (p : ℕ) → p < 2 ^ d → length (path_of d p (tree_layout J d leaf)) ≡ digest_len * d = λ p l. path_long d p (tree_layout J d leaf) l (omega arith) in
    record {
      long = size;
      entry = entries;
      last = ap (λ n. slot n (tree_layout J d leaf)) (omega arith) ∙ entries d 0 (omega arith) (omega arith);
      paths = own;
      path_long = path-size;
      climbs = λ p l.
          let z = path-size p l in
          let k : levels (path_of d p (tree_layout J d leaf)) ≡ d = omega arith in
          ap (λ m. climb plain_rule f (from_node m p (path_of d p (tree_layout J d leaf))) (leaf p)) k
          ∙ ap (λ ys. climb plain_rule f (rungs (sides d p) ys) (leaf p)) (own p l)
          ∙ climbs_own plain_rule f leaf d p l;
    }

front_stays : (f : List ℕ → List ℕ) (d : ℕ) (xs : List ℕ) → digest_len * 2 ^ d ≤ length xs
    → take (digest_len * 2 ^ d) (tree_layout (join_of plain_rule f) d (λ i. slot i xs)) ≡ take (digest_len * 2 ^ d) xs
unfolding levels_from level
front_stays f zero xs h =
    let J = join_of plain_rule f in
    ap (take digest_len) (node_start J (λ i. slot i xs) 0) ∙ take-take digest_len digest_len xs (omega arith)
front_stays f (suc k) xs h =
    let J = join_of plain_rule f in
    let leaf : ℕ → Node = λ i. slot i xs in
    let w = 2 ^ suc k in
    let same : take (digest_len * w) xs ≡ level J leaf 0 w = joined_slots (node J leaf 0) 0 w xs h (λ i l. sym (node_start J leaf i) ∙ ap (node J leaf 0) (omega arith)) in
    take_at (level J leaf 0 w) (levels_from J leaf 1 k) (digest_len * w) (ap length (sym same) ∙ length-take-le (digest_len * w) xs h) ∙ sym same

pub front_stands : (f : List ℕ → List ℕ) → ((m : List ℕ) → length (f m) ≡ digest_len) → FrontStands f
front_stands f sized d xs h = (layouts_stand f sized d (λ i. slot i xs) (λ i l. slot_length i xs (omega arith)), front_stays f d xs h)

pub climbs_both : (f : List ℕ → List ℕ) → ((m : List ℕ) → length (f m) ≡ digest_len) → ClimbsBoth f
climbs_both f sized d p e q leaf next v l m all all' at_p at-q =
    let J = join_of plain_rule f in
    let low = layouts_stand f sized d leaf all in
    let high = layouts_stand f sized e next all' in
    let A = path_of d p (tree_layout J d leaf) in
    let B = path_of e q (tree_layout J e next) in
    let size : length A ≡ digest_len * d = low.path_long p l in
    let front : slots d (A ++ B) ≡ path J d leaf p =
    sym (slots_take d (digest_len * d) (A ++ B) (omega arith)) ∙ ap (slots d) (take_at A B (digest_len * d) size) ∙ low.paths p l in
    let first : climb plain_rule f (from_leaf d p (A ++ B)) v ≡ root J d leaf =
    climb_more plain_rule f alone (from_node d p (A ++ B)) v
    ∙ ap (climb plain_rule f (from_node d p (A ++ B))) (sym at_p)
    ∙ ap (λ ys. climb plain_rule f (rungs (sides d p) ys) (leaf p)) front
    ∙ climbs_own plain_rule f leaf d p l in
    climb_append plain_rule f (from_leaf d p (A ++ B)) (from_leaf e q (drop (digest_len * d) (A ++ B))) v
    ∙ ap (climb plain_rule f (from_leaf e q (drop (digest_len * d) (A ++ B)))) first
    ∙ ap (λ z. climb plain_rule f (from_leaf e q z) (root J d leaf)) (drop_at A B (digest_len * d) size)
    ∙ climb_more plain_rule f alone (from_node e q B) (root J d leaf)
    ∙ ap (climb plain_rule f (from_node e q B)) (sym at-q)
    ∙ ap (λ ys. climb plain_rule f (rungs (sides e q) ys) (next q)) (high.paths q m)
    ∙ climbs_own plain_rule f next e q m

-- ---- paths, level by level

-- the path of place p in the levels that begin at entry s, the first of which has w nodes
pub path_more : (k p s w : ℕ) (xs : List ℕ) → w ≡ 2 ^ suc k
    → path_of (suc k) p (drop (digest_len * s) xs) ≡ slot (s + flip p) xs ++ path_of k (p / 2) (drop (digest_len * (s + w)) xs)
unfolding path_of
path_more k p s w xs e =
    let at : digest_len * s + digest_len * 2 ^ suc k ≡ digest_len * (s + w) = omega arith in
    ap (λ z. z ++ path_of k (p / 2) (drop (digest_len * 2 ^ suc k) (drop (digest_len * s) xs))) (slot_drop (flip p) s xs)
    ∙ ap (λ z. slot (s + flip p) xs ++ path_of k (p / 2) z) (drop-drop (digest_len * 2 ^ suc k) (digest_len * s) xs ∙ ap (λ n. drop n xs) at)

pub path_none : (p : ℕ) (xs : List ℕ) → path_of 0 p xs ≡ []
unfolding path_of
path_none p xs = refl
