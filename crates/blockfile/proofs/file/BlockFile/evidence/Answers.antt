use Rattle.std.proofs.Common.{◌∙◌}
use Rattle.header.specs.Fields.{fields_of}
use Rattle.blockfile.proofs.Cells.{says_none, says_by, none_there, found_there}
use Rattle.blockfile.proofs.file.BlockFile.evidence.Goals as goal

pub returns-in_err-number : goal.returns-in_err-number
returns-in_err-number c =
    let f = c.args.self.now in
    rw c.from_residual.ensures (says_none (fields_of f.header) f.bytes.now f.index c.args.cell.row c.args.cell.col c.in_err-number.ensures.value)

pub returns-in_err-place : goal.returns-in_err-place
returns-in_err-place c =
    let f = c.args.self.now in
    let h = fields_of f.header in
    let n = c.in_ok-number.number in
    rw c.from_residual-in_err-place.ensures (none_there h f.bytes.now f.index n c.in_err-place.ensures ∙ says_by h f.bytes.now f.index c.args.cell.row c.args.cell.col n c.in_ok-number.ensures.value)

pub returns : goal.returns
returns c =
    let f = c.args.self.now in
    let h = fields_of f.header in
    let n = c.in_ok-number.number in
    c.cut.ensures.value ∙ found_there h f.bytes.now f.index n c.in_ok-place.place c.in_ok-place.ensures ∙ says_by h f.bytes.now f.index c.args.cell.row c.args.cell.col n c.in_ok-number.ensures.value
