-- The parts of an image.
use Rattle.std.proofs.Common.{◌≡◌, ℕ, ◌+◌, ◌≤◌, true, List, [], ◌++◌, length, take, sym, refl, ap, ◌∙◌, arith}
use borrow.Rule.Slice.PartMut.{put_mid}
use Rattle.std.specs.List.{range_with_len, flat_map}
use Rattle.std.proofs.lemmas.List.{append_assoc, append-nil}
use Rattle.octets.specs.Splice.{over}
use Rattle.std.proofs.lemmas.Slice.{take-put_mid}
use Rattle.octets.proofs.Joins.{joined_last}
use Rattle.octets.proofs.Splices.{take_over}
use Rattle.hash.specs.Digests.{digest_len}
use Rattle.merkle.proofs.Layouts.{layouts_stand}
use Rattle.erasure.specs.Limits.{ok_width}
use Rattle.header.specs.Fields.{Fields}
use Rattle.header.specs.Sizes.{width, depth, axis_tree_len, data_tree_len}
use Rattle.header.proofs.Measures.{depth_power, depth_above}
use Rattle.commitment.specs.Values.{value_leaf, value_tree}
use Rattle.commitment.specs.Roots.{line_leaf, line_tree, roots_of}
use Rattle.image.specs.Image.{row_trees, data_tree}

module _ (f : List ℕ → List ℕ) (sized : (m : List ℕ) → length (f m) ≡ digest_len) (h : Fields) (wide : ok_width h.k ≡ true) where
  pub tree_long : (sq : List ℕ) (n : ℕ) → length (line_tree f h sq n) ≡ axis_tree_len h
  unfolding line_tree
  tree_long sq n = (layouts_stand f sized (depth h) (line_leaf f (width h) h.s sq n) (λ i l. sized _)).long ∙ omega (arith, depth_power h.k wide)

  pub data_long : (sq : List ℕ) → length (data_tree f h sq) ≡ data_tree_len h
  unfolding value_tree
  data_long sq = (layouts_stand f sized (depth h + 1) (value_leaf f digest_len (roots_of f h sq)) (λ i l. sized _)).long ∙ omega (arith, depth_above h.k wide)

  -- the trees of the rows, one more
  pub trees_more : (sq : List ℕ) (n at k next : ℕ) (xs tree : List ℕ) → take at xs ≡ row_trees f h sq n → tree ≡ line_tree f h sq n
      → at ≤ length xs → next ≡ at + axis_tree_len h → take next (put_mid at k xs tree) ≡ row_trees f h sq (n + 1)
  unfolding row_trees
  trees_more sq n at k next xs tree e y within is =
      take-put_mid at k xs tree next (is ∙ sym (ap (λ m. at + m) (ap length y ∙ tree_long sq n))) within
      ∙ ap (λ x. x ++ tree) e
      ∙ ap (λ x. flat_map (line_tree f h sq) (range_with_len 0 n) ++ x) y
      ∙ ap (λ i. flat_map (line_tree f h sq) (range_with_len 0 n) ++ line_tree f h sq i) (omega arith)
      ∙ sym (joined_last (line_tree f h sq) 0 n)

  pub trees_none : (sq : List ℕ) → [] ≡ row_trees f h sq 0
  unfolding row_trees
  trees_none sq = refl

  -- the same behind a front
  pub trees_behind : (sq : List ℕ) (n at next : ℕ) (front xs ys : List ℕ) → take at xs ≡ front ++ row_trees f h sq n → ys ≡ over at (line_tree f h sq n) xs
      → at + axis_tree_len h ≤ length xs → next ≡ at + axis_tree_len h → take next ys ≡ front ++ row_trees f h sq (n + 1)
  unfolding row_trees
  trees_behind sq n at next front xs ys e y within is =
      let long = tree_long sq n in
      ap (take next) y
      ∙ take_over at (line_tree f h sq n) xs (omega arith) next (omega arith)
      ∙ ap (λ x. x ++ line_tree f h sq n) e
      ∙ append_assoc front (flat_map (line_tree f h sq) (range_with_len 0 n)) (line_tree f h sq n)
      ∙ ap (λ x. front ++ x) (ap (λ i. flat_map (line_tree f h sq) (range_with_len 0 n) ++ line_tree f h sq i) (omega arith) ∙ sym (joined_last (line_tree f h sq) 0 n))

  pub no_trees_behind : (sq front : List ℕ) → front ≡ front ++ row_trees f h sq 0
  unfolding row_trees
  no_trees_behind sq front = sym (append-nil front)
