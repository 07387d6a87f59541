use Rattle.std.proofs.Common.{◌≡◌, ◌*◌, take}
use Rattle.header.specs.Fields.{fields_of}
use Rattle.image.specs.Image.{row_trees}
use Rattle.image.proofs.lay_out.put_row_trees.Given as goal

abbrev pub invariant-loop-row : goal.invariant-loop-row
invariant-loop-row g l = take (l.row * l.size) l.trees ≡ row_trees g.H.Hash.meaning (fields_of l.cells.header.now) l.cells.shares.now l.row
