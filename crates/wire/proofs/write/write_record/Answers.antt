use Rattle.std.proofs.Common.{length, sym, ap, ◌∙◌}
use Rattle.octets.specs.Written.{written}
use Rattle.header.specs.Fields.{fields_of}
use Rattle.wire.specs.Parts.{value_of}
use Rattle.wire.specs.Reading.{reads}
use Rattle.wire.specs.declared.due.Due.TheVariants.{Anything}
use Rattle.wire.specs.Writing.{bytes_of}
use Rattle.wire.proofs.Fits.{fitting}
use Rattle.wire.proofs.write.write_record.Goals as goal

pub put_record-requires : goal.put_record-requires
put_record-requires c =
    let f = fitting (fields_of c.args.h.now) (value_of c.args.item.now) (length c.args.out.now) (record { wide = c.args.h.now.width; sized = c.args.h.now.size }) c.if-not-in_range.ensures c.if-not-target_fits.ensures in
    (f.short, f.exact)

pub returns : goal.returns
returns c =
    let h = fields_of c.args.h.now in
    let x = value_of c.args.item.now in
    let f = fitting h x (length c.args.out.now) (record { wide = c.args.h.now.width; sized = c.args.h.now.size }) c.if-not-in_range.ensures c.if-not-target_fits.ensures in
    let w = c.put_record.ensures in
    record {
      answer = sym f.goes;
      written = w ∙ sym (ap (λ o. written o (bytes_of x) c.args.out.now) f.goes);
      back = ap (reads h Anything) w ∙ f.back;
    }
