use Rattle.std.proofs.Common.{◌+◌, false, eqb, get_or, refl, ap, ◌∙◌, arith, below_more}
use Rattle.std.proofs.lemmas.List.{get_or-set_same, get_or-set_other}
use Rattle.withholding.proofs.Hiding.{next_mark}
use Rattle.withholding.proofs.withholding.hide_marked.Goals as goal

pub loop-is_hidden-preserved : goal.loop-is_hidden-preserved
loop-is_hidden-preserved c =
    let hs = c.loop-is_hidden.hidden in
    let i = c.loop-is_hidden.is_hidden-index in
    let n = next_mark (λ s. s.rest.now) _ _ (λ x. refl) c.next.result c.loop-is_hidden.marks c.next.new.self c.next.ensures.steps in (
      (λ j. n.1 j ∙ c.loop-is_hidden.invariant.0 (j + 1) ∙ ap (λ k. get_or c.args.marks.now k 0) (omega arith)),
      below_more _ _
          (λ j h. get_or-set_other hs i j _ false (omega arith) ∙ c.loop-is_hidden.invariant.1 j h)
          (get_or-set_same hs i _ false (omega arith) ∙ c.eq.ensures ∙ n.0 ∙ ap (λ x. eqb x 1) (c.loop-is_hidden.invariant.0 0 ∙ ap (λ k. get_or c.args.marks.now k 0) (omega arith))),
    )
