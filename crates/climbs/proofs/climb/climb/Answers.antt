use Rattle.std.proofs.Common.{◌≡◌, true, sym, ap, ◌∙◌, length}
use Rattle.hash.specs.Digests.{digest_len}
use Rattle.std.proofs.lemmas.Bool.{cond-true, eq-eqb, and_from}
use Rattle.merkle.specs.Climb.{plain_rule, climb, climb_node, levels, from_node}
use Rattle.merkle.proofs.Chunks.{past_slots}
use Rattle.climbs.specs.Answers.{climb_node_fits}
use Rattle.climbs.proofs.climb.climb.Goals as goal

pub returns-clause-written : goal.returns-clause-written
returns-clause-written g c =
    let f = g.H.Hash.meaning in
    let path = c.args.path.now in
    let p = c.args.place in
    let node = c.args.node.now in
    let s = c.in_ok-siblings.ensures in
    let n = c.in-Ok.ensures.1 in
    let fits : climb_node_fits (length node) (length path) ≡ true = and_from _ _ (eq-eqb (length node) digest_len n.long) s.0 in
    c.copy_from_slice.ensures.after
    ∙ c.climb_up-end.ensures
    ∙ ap (λ rs. climb plain_rule f rs c.in-Ok.start) (past_slots (levels path) p path _ s.1)
    ∙ ap (climb plain_rule f (from_node (levels path) p path)) n.same
    ∙ sym (cond-true (climb_node_fits (length node) (length path)) (climb_node f p path node) node fits)
