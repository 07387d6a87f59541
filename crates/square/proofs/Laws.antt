-- What holds of extended data.
use Rattle.std.proofs.Common.{◌≡◌, ℕ, ◌+◌, ◌*◌, ◌<◌, ◌≤◌, true, List, length, get_or, sym, refl, ap, ◌∙◌, arith}
use Rattle.octets.specs.Shares.{share}
use Rattle.hash.specs.Digests.{digest_len}
use Rattle.merkle.specs.Climb.{plain_rule, join_of, leaf_of, slot}
use Rattle.merkle.proofs.Same.{node_same}
use Rattle.codes.specs.Code.{Table, FirstLaw, SecondLaw}
use Rattle.erasure.specs.Limits.{ok_width, ok_size}
use Rattle.erasure.proofs.Bounds.{width_most}
use Rattle.header.specs.declared.cell.Axis.{Axis}
use Rattle.header.specs.declared.cell.Axis.TheVariants.{Row, Column}
use Rattle.header.specs.Fields.{Fields}
use Rattle.header.specs.Lines.{row_at, col_at}
use Rattle.header.specs.Sizes.{width, depth, data_len, square_len, line_number, line_number_in, cell_on}
use Rattle.header.proofs.Measures.{depth_power}
use Rattle.header.proofs.Numbers.{on_row, on_column}
use Rattle.extension.specs.Square.{extension}
use Rattle.extension.specs.Lines.{line_shares}
use Rattle.extension.proofs.Squares.{extension_length, extension_by_columns_lem}
use Rattle.extension.proofs.Lines.{line_share}
use Rattle.extension.proofs.Extends.{extension_lines, extension_through, extension_quadrant}
use Rattle.commitment.specs.Values.{value_leaf, value_root}
use Rattle.commitment.specs.Roots.{line_leaf, roots_of}
use Rattle.commitment.specs.Commit.{committed}
use Rattle.commitment.proofs.Trees.{roots_at}
use Rattle.square.specs.Extend.{Extended, GivenBy}

-- the cell at a place of a line, by the line's number and by its axis and index
line_cell : (axis : Axis) (w i p : ℕ) → i < w → cell_on w (line_number_in w axis i) p ≡ row_at axis i p * w + col_at axis i p
line_cell Row w i p l = on_row w i p l
line_cell Column w i p l = on_column w (w + i) p (omega arith) ∙ ap (λ j. p * w + j) (omega arith)

line_below : (axis : Axis) (w i : ℕ) → i < w → line_number_in w axis i < 2 * w
line_below Row w i l = omega arith
line_below Column w i l = omega arith

module _ (f : List ℕ → List ℕ) (sized : (m : List ℕ) → length (f m) ≡ digest_len) (h : Fields) (wide : ok_width h.k ≡ true) where
  -- of any square, the root among its roots is that of the tree over the line's shares
  rooted : (sq : List ℕ) → length sq ≡ square_len h → (axis : Axis) (i : ℕ) → i < width h
      → slot (line_number h axis i) (roots_of f h sq) ≡ value_root f (depth h) h.s (line_shares h.k h.s axis i sq)
  unfolding value_root
  rooted sq long axis i l =
      roots_at f sized (width h) (depth h) h.s sq (line_number h axis i) (line_below axis (width h) i l)
      ∙ node_same (join_of plain_rule f) (line_leaf f (width h) h.s sq (line_number h axis i)) (value_leaf f h.s (line_shares h.k h.s axis i sq)) (depth h) 0
      (λ p b. ap (leaf_of plain_rule f)
      (ap (λ n. share h.s n sq) (line_cell axis (width h) i p l) ∙ sym (line_share h.k h.s axis i sq p long l (omega (arith, depth_power h.k wide)))))

  module _ (T : Table) (first : FirstLaw T) (second : SecondLaw T) (d : List ℕ) (bytes : (n : ℕ) → get_or d n 0 < 256)
      (size : ok_size h.s ≡ true) (long : length d ≡ data_len h) where
    extended : Extended f T h d (extension T h.k h.s d) (roots_of f h (extension T h.k h.s d))
    extended =
        let few : h.k ≤ 128 = omega (arith, width_most h.k wide) in
        record {
          by_columns = extension_by_columns_lem T h.k h.s d;
          coded = extension_lines T first h.k h.s few d;
          from_any = extension_through T first second h.k h.s few d;
          front = extension_quadrant T first h.k h.s few d long bytes;
          rooted = rooted (extension T h.k h.s d) (extension_length T h.k h.s d);
        }

    given : GivenBy f T (committed f h (extension T h.k h.s d)) d
    given = record { wide = wide; sized = size; long = long; bytes = bytes; root = refl }

    pub stand : Extended f T h d (extension T h.k h.s d) (roots_of f h (extension T h.k h.s d)) × GivenBy f T (committed f h (extension T h.k h.s d)) d
    stand = (extended, given)
