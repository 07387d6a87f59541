use Rattle.std.proofs.Common.{◌≡◌, ℕ, ◌*◌, ◌≤◌, cond, List, length, sym, ap, ◌∙◌, subst, mul_assoc, arith}
use Rattle.codes.specs.Code.{Table}
use Rattle.erasure.proofs.Bounds.{width_most}
use Rattle.extension.specs.Square.{extension, quadrant}
use Rattle.extension.specs.Laws.{LinesCoded, LinesFromAny}
use Rattle.extension.proofs.Squares.{extension_by_columns_lem}
use Rattle.extension.proofs.Extends.{extension_lines, extension_through, extension_quadrant}
use Rattle.extension.proofs.Fills.{fill_parts, columns_fit, columns_filled, extension_from_rows}
use Rattle.extension.proofs.fill.fill.Goals as goal

pub fill_rows-requires : goal.fill_rows-requires
fill_rows-requires g c =
    let f = fill_parts c.args.k c.args.s (length c.args.shares.now) (length c.args.square.now) (sym c.if-not-fill_fits.ensures) in
    (f.wide, (f.sized, (f.from ∙ mul_assoc c.args.k c.args.k c.args.s, f.into ∙ mul_assoc (2 * c.args.k) (2 * c.args.k) c.args.s)))

pub overflow_mul-k : goal.overflow_mul-k
overflow_mul-k g c =
    let f = fill_parts c.args.k c.args.s (length c.args.shares.now) (length c.args.square.now) (sym c.if-not-fill_fits.ensures) in
    let w : c.args.k ≤ 32 = width_most c.args.k f.wide in
    record { fits = omega arith }

pub returns : goal.returns
returns g c =
    let T : Table = g.C.Code.table in
    let k : ℕ = c.args.k in
    let s : ℕ = c.args.s in
    let xs : List ℕ = c.args.shares.now in
    let rows : List ℕ = c.fill_rows.new.square in
    let sq : List ℕ = c.complete.new.word in
    let e = c.if-not-fill_fits.ensures in
    let f = fill_parts k s (length xs) (length c.args.square.now) (sym e) in
    let w : k ≤ 32 = width_most k f.wide in
    let m : k ≤ 128 = omega arith in
    let long : length rows ≡ 2 * k * (2 * k * s) = c.fill_rows.auto.square ∙ f.into ∙ mul_assoc (2 * k) (2 * k) s in
    let is : sq ≡ extension T k s xs =
    columns_filled T k s rows sq f.wide f.sized long c.complete.ensures.whole ∙ extension_from_rows T k s xs rows c.fill_rows.ensures in
    record {
      answer = c.complete.ensures.answer ∙ columns_fit k s rows f.wide f.sized long ∙ e;
      filled = is ∙ ap (λ t. cond t (extension T k s xs) c.args.square.now) e;
      columns = λ _. is ∙ extension_by_columns_lem T k s xs;
      lines = λ _. subst (LinesCoded T k s) (sym is) (extension_lines T g.met.C.Code.first k s m xs);
      through = λ _. subst (LinesFromAny T k s) (sym is) (extension_through T g.met.C.Code.first g.met.C.Code.second k s m xs);
      front = λ _. ap (quadrant k s) is ∙ extension_quadrant T g.met.C.Code.first k s m xs f.from (λ n. (c.type_inv.shares n).fits);
    }
