use Rattle.std.proofs.Common.{◌≡◌, true, eqb, length, replicate, sym, ap, ◌∙◌, arith}
use Rattle.std.proofs.lemmas.Bool.{and_from, and_parts, cond-true, eq-eqb}
use Rattle.octets.specs.Written.{written}
use Rattle.header.specs.Fields.{fields_of}
use Rattle.header.specs.Sizes.{data_len, square_len, roots_len}
use Rattle.header.proofs.Made.{made}
use Rattle.extension.specs.Square.{extension, fill_fits}
use Rattle.commitment.specs.Roots.{roots_of, square_fits}
use Rattle.commitment.specs.Commit.{blank, commit_outcome}
use Rattle.square.specs.Extend.{extend_fits}
use Rattle.square.proofs.Laws.{stand}
use Rattle.square.proofs.Outcomes.{extend_granted, commit_granted, fill_granted}
use Rattle.square.proofs.extend.extend.Goals as goal

pub returns-in_err-h-clause-stands : goal.returns-in_err-h-clause-stands
returns-in_err-h-clause-stands g c w z l =
    let b = blank c.args.k c.args.s g.H.Hash.KIND g.C.Code.KIND in
    stand g.H.Hash.meaning g.met.H.Hash.sized b w g.C.Code.table g.met.C.Code.first g.met.C.Code.second c.args.shares.now (λ n. omega (arith, c.type_inv.shares n)) z l

pub returns-then-shares-n-clause-stands : goal.returns-then-shares-n-clause-stands
returns-then-shares-n-clause-stands g c w z l =
    let b = blank c.args.k c.args.s g.H.Hash.KIND g.C.Code.KIND in
    stand g.H.Hash.meaning g.met.H.Hash.sized b w g.C.Code.table g.met.C.Code.first g.met.C.Code.second c.args.shares.now (λ n. omega (arith, c.type_inv.shares n)) z l

pub returns : goal.returns
returns g c =
    let f = g.H.Hash.meaning in
    let T = g.C.Code.table in
    let b = blank c.args.k c.args.s g.H.Hash.KIND g.C.Code.KIND in
    let d = c.args.shares.now in
    let n = length c.args.square.now in
    let m = length c.args.roots.now in
    let ext = extension T c.args.k c.args.s d in
    let h = made (record { k = c.args.k; s = c.args.s; hash_kind = c.KIND.result; code_kind = c.KIND-2.result; data_root = replicate 32 0 }) (fields_of c.in_ok-h.h) c.in_ok-h.ensures in
    let of = fields_of c.in_ok-h.h in
    let e = c.lengths-n.ensures in
    let measured : extend_fits of (length d) n m ≡ true =
    and_from _ _ (eq-eqb (length d) (data_len of) (omega (arith, ap (λ l. l.«data») e)))
    (and_from _ _ (eq-eqb n (square_len of) (omega (arith, ap (λ l. l.square) e))) (eq-eqb m (roots_len of) (omega (arith, ap (λ l. l.roots) e)))) in
    let fits : extend_fits b (length d) n m ≡ true = sym (ap (λ x. extend_fits x (length d) n m) h.same) ∙ measured in
    let sq-is : c.fill.new.square ≡ ext = c.fill.ensures.filled ∙ cond-true (fill_fits c.args.k c.args.s (length d) n) _ _ (fill_granted f b h.wide h.sized (length d) n m fits) in
    let room : square_fits b (length ext) m ≡ true =
    ap (λ x. square_fits b x m) (sym (ap length sq-is) ∙ c.fill.auto.square) ∙ (and_parts (eqb (length d) (data_len b)) (square_fits b n m) fits).1 in
    let E = extend_granted f b h.wide h.sized T d n m fits in
    let C = commit_granted f b h.wide h.sized ext m room in
    record {
      answer = c.commit.ensures.answer ∙ ap (λ x. commit_outcome f b x m) sq-is ∙ C ∙ sym E;
      square = sq-is ∙ sym (ap (λ o. written o ext c.args.square.now) E);
      roots =
          c.commit.ensures.written
          ∙ ap (λ x. written (commit_outcome f b x m) (roots_of f b x) c.args.roots.now) sq-is
          ∙ ap (λ o. written o (roots_of f b ext) c.args.roots.now) C
          ∙ sym (ap (λ o. written o (roots_of f b ext) c.args.roots.now) E);
      stands = λ w z l. stand f g.met.H.Hash.sized b w T g.met.C.Code.first g.met.C.Code.second d (λ n. omega (arith, c.type_inv.shares n)) z l;
    }
