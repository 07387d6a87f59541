use Rattle.std.proofs.Common.{◌+◌, ◌≤◌, length, sym, ◌∙◌, arith}
use Rattle.std.proofs.lemmas.Bool.{le-leb}
use Rattle.octets.proofs.Splices.{over_is, spliced_in}
use Rattle.octets.proofs.splice.splice.Goals as goal

pub returns : goal.returns
returns c =
    let at = c.args.at in
    let part = c.args.part.now in
    let out = c.args.out.now in
    let fits : at + length part ≤ length out = omega arith in
    record {
      answer = sym (le-leb (at + length part) (length out) fits);
      written = over_is at _ out _ part c.copy_from_slice.ensures.after (omega arith) ∙ sym (spliced_in at part out fits);
    }
