use Rattle.std.proofs.Common.{sym}
use Rattle.header.specs.Fields.{fields_of}
use Rattle.header.proofs.Measures.{number_inside, number_low}
use Rattle.header.proofs.header.Header.cell_number.Goals as goal

pub returns-clause-inside : goal.returns-clause-inside
returns-clause-inside c = number_inside (fields_of c.args.self.now) c.args.cell.row c.args.cell.col (sym c.if-not-has_cell.ensures)

pub returns-clause-few : goal.returns-clause-few
returns-clause-few c =
    number_low (fields_of c.args.self.now) c.args.self.now.width c.args.cell.row c.args.cell.col (sym c.if-not-has_cell.ensures)
