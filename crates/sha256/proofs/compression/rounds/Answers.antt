use Rattle.std.proofs.Common.{◌≡◌, ◌+◌, [], ◌∷◌, ◌++◌, length, get_or, drop, sym, refl, ap, ◌∙◌, inl, inr, arith, rules, length-append, length-drop}
use Rattle.sha256.specs.Compression.{constants, round_of, up_to}
use Rattle.sha256.specs.Vars.{vars}
use Rattle.sha256.proofs.Steps.{dropped, up_to_more}
use Rattle.sha256.proofs.compression.rounds.Goals as goal

pub loop-k-init : goal.loop-k-init
unfolding up_to
loop-k-init c = record { few = omega arith; ks = search rules; ws = search rules; so_far = refl }

pub loop-k-preserved : goal.loop-k-preserved
loop-k-preserved c =
    let inv = c.loop-k.invariant in
    let h = c.in-Some.ensures.steps in
    let n = length c.loop-k.yielded in
    let next : n + 1 ≡ length (c.loop-k.yielded ++ (c.in-Some.k, c.in-Some.w) ∷ []) = sym (length-append c.loop-k.yielded _) in
    let k = dropped n constants c.in-Some.k.now c.next.new.self.a.rest.now (sym h.0 ∙ inv.ks) in
    let w = dropped n c.args.w.now c.in-Some.w.now c.next.new.self.b.rest.now (sym h.1 ∙ inv.ws) in
    record {
      few = omega arith;
      ks = k.rest ∙ ap (λ i. drop i constants) next;
      ws = w.rest ∙ ap (λ i. drop i c.args.w.now) next;
      so_far =
          up_to_more c.args.w.now (vars c.args.v) (vars c.loop-k.t) (vars c.round-t.result) n inv.so_far
          (c.round-t.ensures ∙ ap (λ x. round_of (vars c.loop-k.t) x c.in-Some.w.now) k.here ∙ ap (round_of (vars c.loop-k.t) (get_or constants n 0)) w.here)
          ∙ ap (up_to c.args.w.now (vars c.args.v)) next;
    }

pub returns : goal.returns
returns c =
    let inv = c.loop-k.invariant in
    let n = length c.loop-k.yielded in
    let a = ap length inv.ks ∙ length-drop n constants in
    let b = ap length inv.ws ∙ length-drop n c.args.w.now in
    let all : n ≡ 64 = elim c.in-None.ensures.steps [ inl e ↦ omega arith | inr e ↦ omega arith ] in
    inv.so_far ∙ ap (up_to c.args.w.now (vars c.args.v)) all
