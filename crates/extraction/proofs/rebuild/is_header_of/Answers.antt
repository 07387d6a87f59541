use Rattle.std.proofs.Common.{◌≡◌, ◌+◌, length, refl, ap, ◌∙◌}
use Rattle.std.proofs.lemmas.Bool.{cond-true}
use Rattle.hash.specs.Digests.{digest_len}
use Rattle.header.specs.Fields.{fields_of}
use Rattle.commitment.specs.Values.{root_fits, value_root}
use Rattle.std.specs.Str.{bytes_eq}
use Rattle.commitment.proofs.Fitting.{roots_fit}
use Rattle.extraction.proofs.rebuild.is_header_of.Goals as goal

pub returns : goal.returns
returns g c =
    let h = c.args.h.now in
    let n = length c.args.roots.now in
    let top = c.value_root.ensures
    ∙ cond-true (root_fits (c.lengths-depth.result.depth + 1) digest_len n) _ _
    (roots_fit (fields_of h) c.lengths-depth.result.depth n h.width (ap (λ l. l.depth) c.lengths-depth.ensures) c.requires) in
    let deep = ap (λ l. l.depth) c.lengths-depth.ensures in
    let same : c.eq.result ≡ bytes_eq (value_root g.H.Hash.meaning (c.lengths-depth.result.depth + 1) digest_len c.args.roots.now) h.data_root = c.eq.ensures ∙ rw top refl in
    same ∙ ap (λ d. bytes_eq (value_root g.H.Hash.meaning (d + 1) digest_len c.args.roots.now) h.data_root) deep
