-- Every length that belongs to a block, each given once, as a function of the header's fields.
use Rattle.std.specs.Prelude.{ℕ, ◌+◌, ◌-◌, ◌*◌, Bool, cond, ◌&&◌, ◌==◌, Some, None, Option, nat_lt}
use Rattle.hash.specs.Digests.{digest_len}
use Rattle.header.specs.Fields.{Fields}
use Rattle.header.specs.declared.cell.Axis.{Axis}
use Rattle.header.specs.declared.cell.Axis.TheVariants.{Row, Column}
use Rattle.header.specs.declared.lengths.Lengths.{Lengths}

-- cells of a line
abbrev pub width : Fields → ℕ
width h = 2 * h.k

-- levels of a line's tree above its leaves: 2 to this power is the width
unfoldable pub depth_of : ℕ → ℕ
depth_of k = cond (k == 1) 1 (cond (k == 2) 2 (cond (k == 4) 3 (cond (k == 8) 4 (cond (k == 16) 5 6))))

abbrev pub depth : Fields → ℕ
depth h = depth_of h.k

-- the data, the square, its marks, and one line of it
abbrev pub data_len : Fields → ℕ
data_len h = h.k * h.k * h.s

abbrev pub cell_count : Fields → ℕ
cell_count h = width h * width h

abbrev pub square_len : Fields → ℕ
square_len h = cell_count h * h.s

abbrev pub line_len : Fields → ℕ
line_len h = width h * h.s

-- the roots of all lines, rows first
abbrev pub line_count : Fields → ℕ
line_count h = 2 * width h

abbrev pub roots_len : Fields → ℕ
roots_len h = line_count h * digest_len

-- paths: in a line's tree, in the data tree, and of an evidence
abbrev pub axis_path_len : Fields → ℕ
axis_path_len h = digest_len * depth h

abbrev pub data_path_len : Fields → ℕ
data_path_len h = digest_len * (depth h + 1)

abbrev pub path_len : Fields → ℕ
path_len h = digest_len * (2 * depth h + 1)

-- a tree of n leaves has 2n - 1 nodes
abbrev pub axis_tree_len : Fields → ℕ
axis_tree_len h = digest_len * (2 * width h - 1)

abbrev pub data_tree_len : Fields → ℕ
data_tree_len h = digest_len * (2 * line_count h - 1)

-- the square, the trees of its rows, the data tree
abbrev pub image_len : Fields → ℕ
image_len h = square_len h + width h * axis_tree_len h + data_tree_len h

-- ---- records: a head of six bytes, and a body

abbrev pub head_len : ℕ
head_len = 6

-- k, s, two kinds, the data root
abbrev pub header_body_len : ℕ
header_body_len = 6 + digest_len

-- axis, index
abbrev pub group_body_len : ℕ
group_body_len = 3

-- place, share, path
abbrev pub share_body_len : Fields → ℕ
share_body_len h = 2 + h.s + path_len h

-- axis, index, root, path in the data tree
abbrev pub claim_body_len : Fields → ℕ
claim_body_len h = 3 + digest_len + data_path_len h

-- place, proving axis, share, path
abbrev pub witness_body_len : Fields → ℕ
witness_body_len h = 3 + h.s + path_len h

-- a claim and k witnesses
abbrev pub proof_len : Fields → ℕ
proof_len h = head_len + claim_body_len h + h.k * (head_len + witness_body_len h)

-- the longest string that is hashed: a lead byte and the largest share
abbrev pub string_len : ℕ
string_len = 513

-- all of them
abbrev pub lengths_of : Fields → Lengths
lengths_of h = record {
  width = width h;
  depth = depth h;
  cells = cell_count h;
  lines = line_count h;
  share = h.s;
  «data» = data_len h;
  square = square_len h;
  line = line_len h;
  roots = roots_len h;
  axis_path = axis_path_len h;
  data_path = data_path_len h;
  path = path_len h;
  axis_tree = axis_tree_len h;
  data_tree = data_tree_len h;
  image = image_len h;
  header_body = header_body_len;
  group_body = group_body_len;
  share_body = share_body_len h;
  claim_body = claim_body_len h;
  witness_body = witness_body_len h;
  proof = proof_len h;
  string = string_len;
}

-- ---- cells and lines of the square

-- a cell of the square
abbrev pub has_cell : Fields → ℕ → ℕ → Bool
has_cell h r c = nat_lt r (width h) && nat_lt c (width h)

-- the number of a cell: squares and marks go row by row
abbrev pub cell_number : Fields → ℕ → ℕ → ℕ
cell_number h r c = r * width h + c

-- the number of a cell that is inside
abbrev pub number_of : Fields → ℕ → ℕ → Option ℕ
number_of h r c = cond (has_cell h r c) (Some (cell_number h r c)) None

-- in a square of width w, the number of the line with index i along an axis, which is also its leaf in the data tree: rows first, then
-- columns
abbrev pub line_number_in : ℕ → Axis → ℕ → ℕ
line_number_in w Row i = i
line_number_in w Column i = w + i

abbrev pub line_number : Fields → Axis → ℕ → ℕ
line_number h axis i = line_number_in (width h) axis i

-- in a square of width w, the number of the cell at place p of the line with number n: cell (n, p) of a row, cell (p, n - w) of a column
unfoldable pub cell_on : ℕ → ℕ → ℕ → ℕ
cell_on w n p = cond (nat_lt n w) (n * w + p) (p * w + (n - w))
