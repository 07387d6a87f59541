-- Paths in the data tree.
use Rattle.std.proofs.Common.{◌≡◌, ℕ, ◌+◌, ◌*◌, ◌^◌, ◌<◌, ◌≤◌, true, cond, List, length, ap, ◌∙◌, arith}
use Rattle.std.proofs.lemmas.Bool.{and_from, cond-true, eq-eqb, le-leb, lt-ltb}
use Rattle.hash.specs.Digests.{digest_len, parts_limit}
use Rattle.merkle.specs.Layout.{path_of}
use Rattle.layout.specs.Answers.{path_fits, cut_path}
use Rattle.erasure.specs.Limits.{ok_width}
use Rattle.header.specs.Fields.{Fields}
use Rattle.header.specs.Sizes.{depth, line_count, roots_len, data_tree_len, data_path_len}
use Rattle.header.proofs.Measures.{depth_above, depth_most}
use Rattle.commitment.specs.Values.{value_tree, tree_fits}
use Rattle.commitment.proofs.Trees.{tree_is}
use Rattle.extraction.specs.Extracted.{data_path}

module _ (f : List ℕ → List ℕ) (h : Fields) (wide : ok_width h.k ≡ true) (d : ℕ) (deep : d ≡ depth h + 1) (roots : List ℕ) (long : length roots ≡ roots_len h) where
  power : 2 ^ d ≡ 2 * (2 * h.k)
  power = ap (λ i. 2 ^ i) deep ∙ depth_above h.k wide

  few : d ≤ 16
  few = omega (arith, depth_most h.k)

  -- the tree is laid out
  tree_laid : (old new : List ℕ) → length old ≡ data_tree_len h → new ≡ cond (tree_fits d digest_len (length roots) (length old)) (value_tree f d digest_len roots) old
      → new ≡ value_tree f d digest_len roots
  tree_laid old new l e =
      e ∙ cond-true (tree_fits d digest_len (length roots) (length old)) _ _
      (and_from _ _ (tree_is d (length old) few (omega (arith, power)))
      (and_from _ _ (le-leb digest_len parts_limit (omega arith)) (eq-eqb (length roots) (2 ^ d * digest_len) (omega (arith, power)))))

  pub path_cut : (line : ℕ) (old new out path : List ℕ) → line < line_count h → length old ≡ data_tree_len h → length new ≡ length old → length out ≡ data_path_len h
      → new ≡ cond (tree_fits d digest_len (length roots) (length old)) (value_tree f d digest_len roots) old → path ≡ cut_path d line new out
      → path ≡ data_path f h roots line
  unfolding data_path
  path_cut line old new out path l room same o laid cut =
      cut ∙ cond-true (path_fits d line (length new) (length out)) _ _
      (and_from _ _ (and_from _ _ (tree_is d (length new) few (omega (arith, power))) (lt-ltb line (2 ^ d) (omega (arith, power)))) (eq-eqb (length out) (digest_len * d) (omega arith)))
      ∙ ap (path_of d line) (tree_laid old new room laid)
      ∙ ap (λ e. path_of e line (value_tree f e digest_len roots)) deep
