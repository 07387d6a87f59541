-- What a square's own evidence proves.
use Rattle.std.proofs.Common.{◌≡◌, ℕ, ◌+◌, ◌*◌, ◌<◌, true, List, length, take, drop, sym, ap, ◌∙◌, mul_comm, arith, length-append}
use Rattle.std.proofs.lemmas.Nat.{mul-add-lt}
use Rattle.std.proofs.lemmas.Bool.{and_from, eq-eqb, lt-ltb}
use Rattle.octets.specs.Shares.{share}
use Rattle.octets.proofs.Shares.{share_length}
use Rattle.hash.specs.Digests.{digest_len}
use Rattle.merkle.specs.Tree.{root}
use Rattle.merkle.specs.Climb.{plain_rule, leaf_of, join_of}
use Rattle.merkle.proofs.Bound.{same_true}
use Rattle.merkle.proofs.Layouts.{layouts_stand, climbs_both}
use Rattle.erasure.specs.Limits.{ok_width}
use Rattle.header.specs.declared.cell.Axis.{Axis}
use Rattle.header.specs.Fields.{Fields}
use Rattle.header.specs.Lines.{line_of, place_on}
use Rattle.header.specs.Sizes.{width, depth, square_len, path_len, line_number, cell_number}
use Rattle.header.proofs.Measures.{depth_power, depth_above}
use Rattle.header.proofs.Numbers.{line_in, place_in, cell_on_lem}
use Rattle.commitment.specs.Values.{value_leaf, value_tree, value_root}
use Rattle.commitment.specs.Roots.{line_leaf, line_tree, roots_of, data_root_of}
use Rattle.commitment.proofs.Trees.{roots_at}
use Rattle.evidence.specs.Evidence.{verifies, evidence_end}
use Rattle.evidence.specs.Paths.{cell_share, evidence_path}

module _ (f : List ℕ → List ℕ) (sized : (m : List ℕ) → length (f m) ≡ digest_len) (h : Fields) (wide : ok_width h.k ≡ true) where
  -- the root of a line among the roots
  root_among : (sq : List ℕ) (n : ℕ) → n < 2 * width h → share digest_len n (roots_of f h sq) ≡ root (join_of plain_rule f) (depth h) (line_leaf f (width h) h.s sq n)
  unfolding share
  root_among sq n l =
      ap (λ i. take digest_len (drop i (roots_of f h sq))) (mul_comm n digest_len) ∙ roots_at f sized (width h) (depth h) h.s sq n l

  module _ (sq roots : List ℕ) (axis : Axis) (r c : ℕ) (in_row : r < width h) (in-col : c < width h) (own : roots ≡ roots_of f h sq) where
    -- the climb of the evidence ends at the data root
    ends : evidence_end f h axis r c (cell_share h sq r c) (evidence_path f h sq roots axis r c) ≡ data_root_of f h roots
    unfolding evidence_path line_tree value_tree value_root
    ends =
        let q = line_number h axis (line_of axis r c) in
        let p = place_on axis r c in
        let q-in : q < 2 * width h = line_in axis (width h) r c in_row in-col in
        let p-in : p < width h = place_in axis (width h) r c in_row in-col in
        climbs_both f sized (depth h) p (depth h + 1) q (line_leaf f (width h) h.s sq q) (value_leaf f digest_len roots) (cell_share h sq r c)
        (omega (arith, depth_power h.k wide)) (omega (arith, depth_above h.k wide)) (λ i l. sized _) (λ i l. sized _)
        (ap (λ i. leaf_of plain_rule f (share h.s i sq)) (cell_on_lem axis (width h) r c in_row))
        (ap (λ xs. leaf_of plain_rule f (share digest_len q xs)) own ∙ ap (leaf_of plain_rule f) (root_among sq q q-in))

    path_whole : length (evidence_path f h sq roots axis r c) ≡ path_len h
    unfolding evidence_path line_tree value_tree
    path_whole =
        let q = line_number h axis (line_of axis r c) in
        let p = place_on axis r c in
        let q-in : q < 2 * width h = line_in axis (width h) r c in_row in-col in
        let p-in : p < width h = place_in axis (width h) r c in_row in-col in
        let low = layouts_stand f sized (depth h) (line_leaf f (width h) h.s sq q) (λ i l. sized _) in
        let high = layouts_stand f sized (depth h + 1) (value_leaf f digest_len roots) (λ i l. sized _) in
        let a = low.path_long p (omega (arith, depth_power h.k wide)) in
        let b = high.path_long q (omega (arith, depth_above h.k wide)) in
        simp length-append (omega arith)

    pub own_verifies : length sq ≡ square_len h → h.data_root ≡ data_root_of f h roots → verifies f h r c axis (cell_share h sq r c) (evidence_path f h sq roots axis r c) ≡ true
    own_verifies long d =
        let inside = mul-add-lt r (width h) c (width h) in_row in-col in
        and_from _ _ (and_from _ _ (lt-ltb r (width h) in_row) (lt-ltb c (width h) in-col))
        (and_from _ _
        (and_from _ _ (eq-eqb _ h.s (share_length h.s (cell_number h r c) (width h * width h) sq long inside)) (eq-eqb _ (path_len h) path_whole))
        (same_true _ _ (ends ∙ sym d)))
