use Rattle.std.proofs.Common.{◌≡◌, ◌+◌, ◌-◌, ◌*◌, take, drop, ap, ◌∙◌, arith}
use Rattle.std.proofs.lemmas.Bool.Decides.{nat_tests}
use Rattle.octets.proofs.Shares.{share_read}
use Rattle.extraction.proofs.comparison.Comparison.cell_share.Goals as goal

pub returns : goal.returns
returns c =
    let h = c.args.self.now.charge.header.now in
    let number : c.in-Some.number ≡ c.args.cell.row * (2 * h.k) + c.args.cell.col = grind (arith, nat_tests, c.in-Some.ensures.value, c.requires) in
    ap (λ n. take (n * h.s + h.s - n * h.s) (drop (n * h.s) c.args.self.now.square.now)) number ∙ share_read h.s (c.args.cell.row * (2 * h.k) + c.args.cell.col) c.args.self.now.square.now
