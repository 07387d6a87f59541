-- An image that was laid out from a square.
use Rattle.std.proofs.Common.{◌≡◌, ℕ, zero, suc, ◌+◌, ◌*◌, ◌<◌, ◌≤◌, true, not, List, ◌++◌, length, take, drop, Some, None, Option, sym, refl, ap, ◌∙◌, subst, ap₂, suc-mul, zero-mul, arith, length-append, length-drop}
use Rattle.std.specs.List.{range_with_len, flat_map}
use Rattle.std.proofs.lemmas.Nat.{mul-add-lt}
use Rattle.std.proofs.lemmas.List.{drop-drop, drop_at, take_at, take_all, take-append-le, drop-append-le, append_assoc}
use Rattle.std.proofs.lemmas.Bool.{and_from, ne_eqb, lt-ltb, cond-true}
use Rattle.octets.specs.Shares.{share}
use Rattle.octets.proofs.Shares.{share_inside}
use Rattle.hash.specs.Digests.{digest_len}
use Rattle.merkle.specs.Layout.{path_of}
use Rattle.erasure.specs.Limits.{ok_width}
use Rattle.erasure.proofs.Bounds.{width_some}
use Rattle.header.specs.declared.cell.Axis.TheVariants.{Row}
use Rattle.header.specs.Fields.{Fields}
use Rattle.header.specs.Sizes.{width, depth, square_len, axis_tree_len, data_tree_len, cell_number}
use Rattle.commitment.specs.Commit.{committed}
use Rattle.commitment.specs.Roots.{line_tree, roots_of}
use Rattle.evidence.specs.Evidence.{Evidence, verifies}
use Rattle.evidence.specs.Paths.{cell_share, evidence_path}
use Rattle.evidence.proofs.Proving.{own_verifies}
use Rattle.image.specs.Image.{row_trees, data_tree, image_of}
use Rattle.image.proofs.Trees.{tree_long, data_long}
use Rattle.store.specs.Meaning.{block}
use Rattle.memory.specs.Images.{row_tree_in, data_tree_in, row_path, row_evidence, image_meaning, ShownAndProves, LaidOut}

-- ---- parts of one length, joined

module _ (g : ℕ → List ℕ) (n : ℕ) (long : (i : ℕ) → length (g i) ≡ n) where
  pub joined_long : (a m : ℕ) → length (flat_map g (range_with_len a m)) ≡ m * n
  joined_long a zero = sym (zero-mul n)
  joined_long a (suc m) =
      length-append (g a) (flat_map g (range_with_len (a + 1) m)) ∙ omega (arith, long a, joined_long (a + 1) m, suc-mul m n)

  pub part_at : (a m i : ℕ) (ys : List ℕ) → i < m → take n (drop (i * n) (flat_map g (range_with_len a m) ++ ys)) ≡ g (a + i)
  part_at a zero i ys l = absurd (omega arith)
  part_at a (suc m) zero ys l =
      ap (λ k. take n (drop k (g a ++ flat_map g (range_with_len (a + 1) m) ++ ys))) (zero-mul n)
      ∙ ap (take n) (append_assoc (g a) (flat_map g (range_with_len (a + 1) m)) ys)
      ∙ take_at (g a) (flat_map g (range_with_len (a + 1) m) ++ ys) n (long a)
      ∙ ap g (omega arith)
  part_at a (suc m) (suc i) ys l =
      ap (λ k. take n (drop k (g a ++ flat_map g (range_with_len (a + 1) m) ++ ys))) (omega (arith, suc-mul i n))
      ∙ ap (λ xs. take n (drop (n + i * n) xs)) (append_assoc (g a) (flat_map g (range_with_len (a + 1) m)) ys)
      ∙ ap (take n) (sym (drop-drop (i * n) n (g a ++ (flat_map g (range_with_len (a + 1) m) ++ ys))) ∙ ap (drop (i * n)) (drop_at (g a) (flat_map g (range_with_len (a + 1) m) ++ ys) n (long a)))
      ∙ part_at (a + 1) m i ys (omega arith)
      ∙ ap g (omega arith)

-- ---- the parts of an image

module _ (f : List ℕ → List ℕ) (sized : (m : List ℕ) → length (f m) ≡ digest_len) (h : Fields) (wide : ok_width h.k ≡ true) (sq : List ℕ) (long : length sq ≡ square_len h) where
  rows_long : length (row_trees f h sq (width h)) ≡ width h * axis_tree_len h
  unfolding row_trees
  rows_long = joined_long (line_tree f h sq) (axis_tree_len h) (tree_long f sized h wide sq) 0 (width h)

  share_laid : (r c : ℕ) → r < width h → c < width h → cell_share h (image_of f h sq) r c ≡ cell_share h sq r c
  unfolding share
  share_laid r c hr hc =
      let i = cell_number h r c in
      let rest = row_trees f h sq (width h) ++ data_tree f h sq in
      let within : i * h.s + h.s ≤ width h * width h * h.s = share_inside i (width h * width h) h.s (mul-add-lt r (width h) c (width h) hr hc) in
      ap (λ xs. take h.s (drop (i * h.s) xs)) (append_assoc sq (row_trees f h sq (width h)) (data_tree f h sq))
      ∙ ap (take h.s) (drop-append-le (i * h.s) sq rest (omega arith))
      ∙ take-append-le h.s (drop (i * h.s) sq) rest (simp length-drop (omega arith))

  tree_laid : (r : ℕ) → r < width h → row_tree_in h (image_of f h sq) r ≡ line_tree f h sq r
  unfolding row_tree_in row_trees
  tree_laid r hr =
      let a = axis_tree_len h in
      ap (λ xs. take a (drop (square_len h + r * a) xs)) (append_assoc sq (row_trees f h sq (width h)) (data_tree f h sq))
      ∙ ap (take a) (sym (drop-drop (r * a) (square_len h) (sq ++ (row_trees f h sq (width h) ++ data_tree f h sq))) ∙ ap (drop (r * a)) (drop_at sq (row_trees f h sq (width h) ++ data_tree f h sq) (square_len h) long))
      ∙ part_at (line_tree f h sq) a (tree_long f sized h wide sq) 0 (width h) r (data_tree f h sq) hr
      ∙ ap (line_tree f h sq) (omega arith)

  data_laid : data_tree_in h (image_of f h sq) ≡ data_tree f h sq
  unfolding data_tree_in
  data_laid =
      ap (take (data_tree_len h)) (drop_at (sq ++ row_trees f h sq (width h)) (data_tree f h sq) (square_len h + width h * axis_tree_len h) (length-append sq (row_trees f h sq (width h)) ∙ omega (arith, rows_long)))
      ∙ take_all (data_tree_len h) (data_tree f h sq) (omega (arith, data_long f sized h wide sq))

  path_laid : (r c : ℕ) → r < width h → row_path h (image_of f h sq) r c ≡ evidence_path f h sq (roots_of f h sq) Row r c
  unfolding evidence_path
  path_laid r c hr = ap₂ (λ x y. path_of (depth h) c x ++ path_of (depth h + 1) r y) (tree_laid r hr) data_laid

  laid_proves : (r c : ℕ) → r < width h → c < width h → verifies f (committed f h sq) r c Row (cell_share h (image_of f h sq) r c) (row_path h (image_of f h sq) r c) ≡ true
  unfolding evidence_path line_tree
  laid_proves r c hr hc =
      ap₂ (λ x y. verifies f (committed f h sq) r c Row x y) (share_laid r c hr hc) (path_laid r c hr)
      ∙ own_verifies f sized (committed f h sq) wide sq (roots_of f h sq) Row r c hr hc refl long refl

  laid_some : length (image_of f h sq) ≡ 0 → ⊥
  laid_some e =
      omega (arith, length-append (sq ++ row_trees f h sq (width h)) (data_tree f h sq), data_long f sized h wide sq, width_some h.k wide)

  laid_shown : (r c : ℕ) → r < width h → c < width h → ShownAndProves f (committed f h sq) r c ((image_meaning (image_of f h sq) h.k h.s).at r c)
  unfolding row_tree_in data_tree_in
  laid_shown r c hr hc =
      subst (λ (v : Option Evidence). ShownAndProves f (committed f h sq) r c v)
      (sym (cond-true _ (Some (row_evidence (block h.k h.s) (image_of f h sq) r c)) None
      (and_from _ _ (ap not (ne_eqb (length (image_of f h sq)) 0 laid_some)) (and_from _ _ (lt-ltb r (width h) hr) (lt-ltb c (width h) hc)))))
      (laid_proves r c hr hc)

pub laid_out : (k s : ℕ) (image : List ℕ) → LaidOut k s image
laid_out k s image f sized h sq wide ek es long is r c hr hc =
    subst (λ (x : List ℕ). ShownAndProves f (committed f h sq) r c ((image_meaning x k s).at r c)) (sym is)
    (subst (λ (v : ℕ). ShownAndProves f (committed f h sq) r c ((image_meaning (image_of f h sq) v s).at r c)) ek
    (subst (λ (v : ℕ). ShownAndProves f (committed f h sq) r c ((image_meaning (image_of f h sq) h.k v).at r c)) es
    (laid_shown f sized h (ap ok_width ek ∙ wide) sq long r c hr hc)))
