use Rattle.std.proofs.Common.{◌≤◌, length, sym, ap, ◌∙◌, subst}
use Rattle.header.specs.Fields.{Fields, fields_of}
use Rattle.header.proofs.Made.{made}
use Rattle.wire.specs.Parts.{value_of}
use Rattle.blockfile.specs.File.{HeadIs, roots_place}
use Rattle.blockfile.proofs.Heads.{first_read, come_to, header_due, not_header, not_refused, header_read}
use Rattle.blockfile.proofs.open.read_header.Goals as goal

pub returns-in_default : goal.returns-in_default
returns-in_default c =
    let x = value_of c.in_ok-item.item in
    let p = first_read _ c.args.reader.now c.read.new.self x c.smallest.ensures c.requires c.read.ensures.same c.in_ok-item.ensures.answer in
    let d = header_due _ 0 c.args.reader.now.bytes.now _ _ p in
    absurd (not_header c.in_ok-item.item d.0 d.1 c.in_default.not-Header)

pub returns-clause-read : goal.returns-clause-read
returns-clause-read c =
    let g : Fields = record { k = c.in-Header.k; s = c.in-Header.s; hash_kind = c.in-Header.hash_kind; code_kind = c.in-Header.code_kind; data_root = c.in-Header.data_root.now } in
    let x = value_of c.in_ok-item.item in
    let p = first_read _ c.args.reader.now c.read.new.self x c.smallest.ensures c.requires c.read.ensures.same c.in_ok-item.ensures.answer in
    let r = header_read c.args.reader.now.bytes.now x _ g p (ap value_of c.in-Header.is) in
    let m = made g (fields_of c.in-Ok.header) c.in-Ok.ensures in
    subst (HeadIs c.args.reader.now.bytes.now) (sym m.same) r.is

pub returns-clause-behind : goal.returns-clause-behind
returns-clause-behind c =
    let g : Fields = record { k = c.in-Header.k; s = c.in-Header.s; hash_kind = c.in-Header.hash_kind; code_kind = c.in-Header.code_kind; data_root = c.in-Header.data_root.now } in
    let bs = c.args.reader.now.bytes.now in
    let x = value_of c.in_ok-item.item in
    let p = first_read _ c.args.reader.now c.read.new.self x c.smallest.ensures c.requires c.read.ensures.same c.in_ok-item.ensures.answer in
    let r = header_read bs x _ g p (ap value_of c.in-Header.is) in
    let inside = subst (λ b. c.read.new.self.at ≤ length b.now) c.read.ensures.same c.read.new.self.inside in
    come_to bs c.read.new.self.at roots_place _ _ inside r.is.long (sym p ∙ r.is.reads)

pub returns-in_default-make_header-clause-read : goal.returns-in_default-make_header-clause-read
returns-in_default-make_header-clause-read c =
    let g : Fields = record { k = c.in-Header.k; s = c.in-Header.s; hash_kind = c.in-Header.hash_kind; code_kind = c.in-Header.code_kind; data_root = c.in-Header.data_root.now } in
    let x = value_of c.in_ok-item.item in
    let p = first_read _ c.args.reader.now c.read.new.self x c.smallest.ensures c.requires c.read.ensures.same c.in_ok-item.ensures.answer in
    let r = header_read c.args.reader.now.bytes.now x _ g p (ap value_of c.in-Header.is) in
    absurd (not_refused fields_of _ c.make_header.result g (c.make_header.ensures ∙ r.makes) c.in_default-make_header.not-Ok)
