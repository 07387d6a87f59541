use Rattle.std.proofs.Common.{sym, ◌∙◌}
use Rattle.header.specs.Fields.{fields_of}
use Rattle.store.proofs.Asking.{admitted}
use Rattle.filestore.proofs.Sizes.{sized}
use Rattle.filestore.proofs.filestore.FileStoreStore.show.Goals as goal

pub copy_from_slice-requires : goal.copy_from_slice-requires
copy_from_slice-requires c =
    let a = c.args in
    let f = a.self.now.file.now in
    let t = admitted f.header.k f.header.s a.cell.row a.cell.col _ _ (sym c.in_ok-admit.ensures) in
    let z = sized (fields_of f.header) f.header.width f.bytes.now f.index f.within a.cell.row a.cell.col _ (sym c.in-Some.ensures) in
    t.share ∙ sym z.share

pub copy_from_slice-requires-2 : goal.copy_from_slice-requires-2
copy_from_slice-requires-2 c =
    let a = c.args in
    let f = a.self.now.file.now in
    let t = admitted f.header.k f.header.s a.cell.row a.cell.col _ _ (sym c.in_ok-admit.ensures) in
    let z = sized (fields_of f.header) f.header.width f.bytes.now f.index f.within a.cell.row a.cell.col _ (sym c.in-Some.ensures) in
    t.path ∙ sym z.path
