-- Trees over values.
use Rattle.std.proofs.Common.{◌≡◌, ℕ, zero, suc, ◌*◌, ◌^◌, ◌<◌, ◌≤◌, true, leb, List, length, Result, Ok, Err, ap, ◌∙◌, arith}
use Rattle.std.proofs.lemmas.Bool.{le-leb, eq-eqb, and_from, cond-true}
use Rattle.std.specs.Result.{MatchResult, result_unwrap_or}
use Rattle.hash.specs.Digests.{digest_len}
use Rattle.layout.specs.Answers.{grown, is_tree, depth_limit, leaf_count, root_fits, cut_root}
use Rattle.merkle.specs.Climb.{Node, plain_rule, join_of, slot}
use Rattle.merkle.specs.Tree.{node, root}
use Rattle.merkle.specs.Layout.{tree_layout, tree_len, root_of}
use Rattle.merkle.proofs.Layouts.{layouts_stand}
use Rattle.layout.proofs.Entries.{entries_at}
use Rattle.merkle.proofs.Same.{layout_same}
use Rattle.commitment.specs.Roots.{line_leaf, square_roots}
use Rattle.commitment.specs.Values.{value_leaf, value_tree, value_root}

-- a buffer of a tree's length is one
pub tree_is : (d n : ℕ) → d ≤ depth_limit → n ≡ tree_len d → is_tree d n ≡ true
tree_is d n l e = and_from _ _ (le-leb d depth_limit l) (eq-eqb n (tree_len d) e)

pub leaves_is : (d : ℕ) → d ≤ depth_limit → leaf_count d ≡ 2 ^ d
leaves_is d l = cond-true (leb d depth_limit) (2 ^ d) 0 (le-leb d depth_limit l)

-- what was grown over the leaves of some nodes is their tree
pub grown_over : (f : List ℕ → List ℕ) (leaf : ℕ → Node) (d : ℕ) (xs ys : List ℕ) → d ≤ depth_limit → length xs ≡ tree_len d
    → ((j : ℕ) → j < 2 ^ d → slot j xs ≡ leaf j) → ys ≡ grown f d xs → ys ≡ tree_layout (join_of plain_rule f) d leaf
grown_over f leaf d xs ys l n e w =
    w ∙ cond-true (is_tree d (length xs)) _ _ (tree_is d (length xs) l n) ∙ layout_same (join_of plain_rule f) (λ i. slot i xs) leaf d e

-- what is given of a leaf that is not too long
pub leaf_given : {E : Type 0} (r : Result (List ℕ) E) (d x : List ℕ) (n m : ℕ) → n ≤ m → MatchResult r (λ v. (n ≤ m) × (v ≡ x)) (λ _. m < n)
    → result_unwrap_or r d ≡ x
leaf_given (Ok v) d x n m l e = e.1
leaf_given (Err e) d x n m l o = absurd (omega (arith, l, o))

-- the root cut from the tree over some digests
pub root_cut : (f : List ℕ → List ℕ) → ((m : List ℕ) → length (f m) ≡ digest_len) → (leaf : ℕ → Node) (d : ℕ) (tree out top : List ℕ) → d ≤ depth_limit
    → ((i : ℕ) → i < 2 ^ d → length (leaf i) ≡ digest_len) → tree ≡ tree_layout (join_of plain_rule f) d leaf → length out ≡ digest_len
    → top ≡ cut_root d tree out → top ≡ root (join_of plain_rule f) d leaf
root_cut f sized leaf d tree out top l digests e o w =
    let stands = layouts_stand f sized d leaf digests in
    let long : length tree ≡ tree_len d = ap length e ∙ stands.long in
    w ∙ cond-true (root_fits d (length tree) (length out)) _ _ (and_from _ _ (tree_is d (length tree) l long) (eq-eqb (length out) digest_len o))
    ∙ ap (root_of d) e ∙ stands.last

-- a root is a digest
pub root_sized : (f : List ℕ → List ℕ) → ((m : List ℕ) → length (f m) ≡ digest_len) → (leaf : ℕ → Node) (d : ℕ)
    → length (leaf 0) ≡ digest_len → length (root (join_of plain_rule f) d leaf) ≡ digest_len
unfolding node
root_sized f sized leaf zero first = first
root_sized f sized leaf (suc d) first = sized _

-- the root cut from the tree over values
pub value_root_cut : (f : List ℕ → List ℕ) → ((m : List ℕ) → length (f m) ≡ digest_len) → (d s : ℕ) (xs tree out top : List ℕ) → d ≤ depth_limit
    → tree ≡ value_tree f d s xs → length out ≡ digest_len → top ≡ cut_root d tree out → top ≡ value_root f d s xs
unfolding value_tree value_root
value_root_cut f sized d s xs tree out top l e o w = root_cut f sized (value_leaf f s xs) d tree out top l (λ i b. sized _) e o w

-- the root of a line among the roots
pub roots_at : (f : List ℕ → List ℕ) → ((m : List ℕ) → length (f m) ≡ digest_len) → (w d s : ℕ) (sq : List ℕ) (n : ℕ) → n < 2 * w
    → slot n (square_roots f w d s sq) ≡ root (join_of plain_rule f) d (line_leaf f w s sq n)
unfolding square_roots
roots_at f sized w d s sq n l =
    entries_at (λ i. root (join_of plain_rule f) d (line_leaf f w s sq i)) 0 (2 * w) (λ i. root_sized f sized (line_leaf f w s sq i) d (sized _)) n l
    ∙ ap (λ i. root (join_of plain_rule f) d (line_leaf f w s sq i)) (omega arith)
