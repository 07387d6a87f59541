use Rattle.std.proofs.Common.{◌≡◌, ℕ, ◌+◌, ◌-◌, ◌*◌, ◌≤◌, true, false, List, length, drop, sym, ap, ◌∙◌, arith, length-drop}
use Rattle.std.proofs.lemmas.Bool.{false≢true}
use Rattle.octets.specs.Written.{written}
use Rattle.octets.proofs.Cells.{both_halves}
use Rattle.codes.specs.Words.{codeword}
use Rattle.erasure.proofs.Bounds.{width_most, size_most}
use Rattle.erasure.proofs.Recovers.{encode_width, encode_size, encode_length, encode_fine, fitting_parts}
use Rattle.erasure.proofs.Parity.{encoded, rest_fits}
use Rattle.erasure.proofs.calls.encode.Goals as goal

pub returns-then-not-ok_width : goal.returns-then-not-ok_width
returns-then-not-ok_width g c =
    let e = encode_width c.args.k c.args.s (length c.args.shares.now) (length c.args.out.now) (sym c.if-not-ok_width.ensures) in
    record {
      answer = sym e;
      word = sym (ap (λ o. written o (codeword g.C.Code.table c.args.k c.args.s c.args.shares.now) c.args.out.now) e);
    }

pub returns-then-not-ok_size : goal.returns-then-not-ok_size
returns-then-not-ok_size g c =
    let e = encode_size c.args.k c.args.s (length c.args.shares.now) (length c.args.out.now) (sym c.if-not-ok_width.ensures) (sym c.if-not-ok_size.ensures) in
    record {
      answer = sym e;
      word = sym (ap (λ o. written o (codeword g.C.Code.table c.args.k c.args.s c.args.shares.now) c.args.out.now) e);
    }

pub lengths_fit-requires : goal.lengths_fit-requires
lengths_fit-requires g c =
    let w : c.args.k ≤ 32 = width_most c.args.k (sym c.if-not-ok_width.ensures) in
    let z : c.args.s ≤ 512 = size_most c.args.s (sym c.if-not-ok_size.ensures) in
    (omega arith, omega arith)

pub returns-then-not-lengths_fit : goal.returns-then-not-lengths_fit
returns-then-not-lengths_fit g c =
    let e = encode_length c.args.k c.args.s (length c.args.shares.now) (length c.args.out.now) (sym c.if-not-ok_width.ensures) (sym c.if-not-ok_size.ensures)
    (sym c.if-not-lengths_fit.ensures) in
    record {
      answer = sym e;
      word = sym (ap (λ o. written o (codeword g.C.Code.table c.args.k c.args.s c.args.shares.now) c.args.out.now) e);
    }

pub returns-in_err-parity : goal.returns-in_err-parity
returns-in_err-parity g c =
    let f = fitting_parts c.args.k c.args.s (length c.args.shares.now) (length c.args.out.now) (sym c.if-not-lengths_fit.ensures) in
    let e : false ≡ true =
    c.in_err-parity.ensures.answer
    ∙ rest_fits c.args.k c.args.s (sym c.if-not-ok_width.ensures) c.args.shares.now c.copy_from_slice.new.self (drop (c.args.k * c.args.s - 0) c.args.out.now) f.0
    (let t : 2 * c.args.k * c.args.s ≡ c.args.k * c.args.s + c.args.k * c.args.s = both_halves c.args.k c.args.s in simp length-drop (omega (arith, f.1)))
    c.copy_from_slice.ensures.after in
    absurd (false≢true e)

pub returns : goal.returns
returns g c =
    let k : ℕ = c.args.k in
    let s : ℕ = c.args.s in
    let xs : List ℕ = c.args.shares.now in
    let old : List ℕ = c.args.out.now in
    let wide = sym c.if-not-ok_width.ensures in
    let f = fitting_parts k s (length xs) (length old) (sym c.if-not-lengths_fit.ensures) in
    let twice : 2 * k * s ≡ k * s + k * s = both_halves k s in
    let e = encode_fine k s (length xs) (length old) wide (sym c.if-not-ok_size.ensures) (sym c.if-not-lengths_fit.ensures) in
    record {
      answer = sym e;
      word = encoded g.C.Code.table g.met.C.Code.first k s wide xs c.copy_from_slice.new.self (drop (k * s - 0) old) c.parity.new.out f.0
          (simp length-drop (omega (arith, f.1))) (λ n. (c.type_inv.shares n).fits) c.copy_from_slice.ensures.after c.parity.ensures.rest
          ∙ sym (ap (λ o. written o (codeword g.C.Code.table k s xs) old) e);
    }
