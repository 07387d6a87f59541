-- What an image means as a store.
use Rattle.std.specs.Prelude.{◌≡◌, ℕ, ◌+◌, ◌*◌, ◌<◌, Bool, true, cond, not, ◌&&◌, ◌||◌, List, ◌++◌, length, take, drop, Some, None, Ok, Err, Option, Result, ◌==◌}
use Rattle.octets.specs.Outcome.{Refused, plain}
use Rattle.hash.specs.Digests.{digest_len}
use Rattle.merkle.specs.Layout.{path_of}
use Rattle.erasure.specs.Limits.{ok_width, ok_size}
use Rattle.header.specs.declared.cell.Axis.TheVariants.{Row}
use Rattle.header.specs.Fields.{Fields}
use Rattle.header.specs.Sizes.{width, depth, square_len, axis_tree_len, data_tree_len, image_len, has_cell}
use Rattle.commitment.specs.Commit.{committed}
use Rattle.evidence.specs.Evidence.{Evidence, proves}
use Rattle.evidence.specs.Paths.{cell_share}
use Rattle.image.specs.Image.{image_of}
use Rattle.store.specs.Meaning.{Meaning, block}

-- the bytes of an image in the place of the tree of row r, and in that of the data tree
unfoldable pub row_tree_in : Fields → List ℕ → ℕ → List ℕ
row_tree_in h image r = take (axis_tree_len h) (drop (square_len h + r * axis_tree_len h) image)

unfoldable pub data_tree_in : Fields → List ℕ → List ℕ
data_tree_in h image = take (data_tree_len h) (drop (square_len h + width h * axis_tree_len h) image)

-- the path of cell (r, c) by its row, read off them: that of place c in the row's tree, and then that of leaf r in the data tree
abbrev pub row_path : Fields → List ℕ → ℕ → ℕ → List ℕ
row_path h image r c = path_of (depth h) c (row_tree_in h image r) ++ path_of (depth h + 1) r (data_tree_in h image)

-- the evidence of cell (r, c) by its row. An image begins with its square.
abbrev pub row_evidence : Fields → List ℕ → ℕ → ℕ → Evidence
row_evidence h image r c = record { axis = Row; share = cell_share h image r c; path = row_path h image r c }

-- every cell of the square is shown, whatever the image's bytes are. Where there is no image nothing is shown.
abbrev pub image_meaning : List ℕ → ℕ → ℕ → Meaning
image_meaning image k s =
    record { k = k; s = s; at = λ r c. cond (not (length image == 0) && has_cell (block k s) r c) (Some (row_evidence (block k s) image r c)) None }

-- n bytes are an image of this k and this share size, or none
abbrev pub image_held : ℕ → ℕ → ℕ → Bool
image_held k s n = n == 0 || n == image_len (block k s)

-- what opening an image of n bytes answers: refused by 1 for a wrong k, by 2 for a wrong share size, by 3 for another length than
-- theirs
abbrev pub open_outcome : ℕ → ℕ → ℕ → Result (Unit {0}) Refused
open_outcome k s n =
    cond (not (ok_width k)) (Err (plain 1)) (cond (not (ok_size s)) (Err (plain 2)) (cond (not (n == image_len (block k s))) (Err (plain 3)) (Ok tt)))

-- an evidence is shown, and verifies at its cell
abbrev pub ShownAndProves : (List ℕ → List ℕ) → Fields → ℕ → ℕ → Option Evidence → Type 0
ShownAndProves f h r c None = ⊥
ShownAndProves f h r c (Some e) = proves f h r c e ≡ true

-- over an image that was laid out from a square of this k and this share size, under a hash that means f, every cell is shown, and what
-- is shown verifies under the header that commits to the square
abbrev pub LaidOut : ℕ → ℕ → List ℕ → Type 0
LaidOut k s image =
    (f : List ℕ → List ℕ) → ((m : List ℕ) → length (f m) ≡ digest_len) → (h : Fields) (sq : List ℕ)
    → ok_width k ≡ true → h.k ≡ k → h.s ≡ s → length sq ≡ square_len h → image ≡ image_of f h sq
    → (r c : ℕ) → r < width h → c < width h → ShownAndProves f (committed f h sq) r c ((image_meaning image k s).at r c)
