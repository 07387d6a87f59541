use Rattle.std.proofs.Common.{ℕ, ◌*◌, cond, List, length, drop, sym, ap, ◌∙◌}
use Rattle.codes.specs.Words.{codeword}
use Rattle.erasure.proofs.Parity.{parity_parts, half_long, rest_from_rows}
use Rattle.erasure.proofs.calls.parity.Goals as goal

pub code_rows-rows-requires : goal.code_rows-rows-requires
code_rows-rows-requires g c = (parity_parts c.args.k c.args.size _ _ (sym c.if-not-parity_fits.ensures)).wide

pub apply_rows-requires : goal.apply_rows-requires
apply_rows-requires g c =
    let f = parity_parts c.args.k c.args.size (length c.args.shares.now) (length c.args.out.now) (sym c.if-not-parity_fits.ensures) in
    (half_long c.args.k c.code_rows-rows.result.now c.code_rows-rows.ensures.long, (f.from, f.into))

pub returns-clause-rest : goal.returns-clause-rest
returns-clause-rest g c =
    let k : ℕ = c.args.k in
    let s : ℕ = c.args.size in
    let xs : List ℕ = c.args.shares.now in
    let rows : List ℕ = c.code_rows-rows.result.now in
    let e = c.if-not-parity_fits.ensures in
    let f = parity_parts k s (length xs) (length c.args.out.now) (sym e) in
    rest_from_rows g.C.Code.table k s rows xs c.apply_rows.new.out c.code_rows-rows.ensures (c.apply_rows.auto.out ∙ f.into) c.apply_rows.ensures
    ∙ ap (λ t. cond t (drop (k * s) (codeword g.C.Code.table k s xs)) c.args.out.now) e
