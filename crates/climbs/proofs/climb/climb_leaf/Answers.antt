use Rattle.std.proofs.Common.{◌≡◌, true, sym, ap, ◌∙◌, length}
use Rattle.std.proofs.lemmas.Bool.{cond-true, eq-eqb, le-leb, and_from}
use Rattle.hash.specs.Digests.{digest_len, parts_limit}
use Rattle.merkle.specs.Climb.{plain_rule, climb, climb_leaf, levels, alone, from_node}
use Rattle.merkle.proofs.Steps.{climb_more}
use Rattle.merkle.proofs.Chunks.{past_slots}
use Rattle.climbs.specs.Answers.{climb_leaf_fits}
use Rattle.climbs.proofs.climb.climb_leaf.Goals as goal

pub returns-clause-written : goal.returns-clause-written
returns-clause-written g c =
    let f = g.H.Hash.meaning in
    let p = c.args.place in
    let v = c.args.value.now in
    let path = c.args.path.now in
    let s = c.in_ok-row.ensures in
    let n = c.in_ok-leaf.ensures in
    let out = c.args.out.now in
    let fits : climb_leaf_fits (length v) (length path) (length out) ≡ true =
    and_from _ _ (and_from _ _ (le-leb (length v) parts_limit n.0) s.0) (eq-eqb (length out) digest_len c.if-out-ne-DIGEST_LEN.false) in
    c.copy_from_slice.ensures.after
    ∙ c.climb_up-end.ensures
    ∙ ap (λ rs. climb plain_rule f rs c.in_ok-leaf.field-0) (past_slots (levels path) p path _ s.1)
    ∙ ap (climb plain_rule f (from_node (levels path) p path)) n.1
    ∙ sym (climb_more plain_rule f alone (from_node (levels path) p path) v)
    ∙ sym (cond-true (climb_leaf_fits (length v) (length path) (length out)) (climb_leaf f p path v) out fits)
