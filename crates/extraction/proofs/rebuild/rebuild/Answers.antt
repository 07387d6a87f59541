use Rattle.std.proofs.Common.{◌≡◌, length, ap, ◌∙◌, arith}
use Rattle.std.specs.Str.{bytes_eq}
use Rattle.std.proofs.lemmas.Bool.{and_from, cond-true, eq-eqb}
use Rattle.header.specs.Fields.{fields_of}
use Rattle.extension.specs.Square.{fill_fits}
use Rattle.commitment.specs.Roots.{roots_of, square_fits, data_root_of}
use Rattle.square.proofs.Laws.{stand}
use Rattle.extraction.specs.Extracted.{square_of}
use Rattle.extraction.proofs.Fitting.{fill_granted}
use Rattle.extraction.proofs.rebuild.rebuild.Goals as goal

pub returns : goal.returns
returns g c =
    let h = c.args.h.now in
    let x = fields_of h in
    let f = g.H.Hash.meaning in
    let T = g.C.Code.table in
    let d = c.args.shares.now in
    let sq = square_of T x d in
    let filled : c.fill.new.square ≡ sq =
    c.fill.ensures.filled ∙ cond-true (fill_fits h.k h.s (length d) (length c.args.square.now)) _ _ (fill_granted x (length d) (length c.args.square.now) h.width h.size c.requires.0 c.requires.1.0) in
    let roots : c.square_roots.new.roots ≡ roots_of f x sq =
    c.square_roots.ensures.written
    ∙ cond-true (square_fits x (length c.fill.new.square) (length c.args.roots.now)) _ _
    (and_from _ _ (eq-eqb _ _ (c.fill.auto.square ∙ c.requires.1.0)) (eq-eqb _ _ c.requires.1.1))
    ∙ ap (roots_of f x) filled in
    record {
      square = filled;
      roots = roots;
      stands = (stand f g.met.H.Hash.sized x h.width T g.met.C.Code.first g.met.C.Code.second d (λ n. omega (arith, c.type_inv.shares n)) h.size c.requires.0).0;
      answer = c.is_header_of.ensures ∙ ap (λ r. bytes_eq (data_root_of f x r) h.data_root) roots;
    }
