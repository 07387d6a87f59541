use Rattle.std.proofs.Common.{◌≡◌, ◌∷◌, ◌++◌, ◌/◌, [], length, false, sym, ap, ◌∙◌, arith}
use Rattle.std.proofs.lemmas.Slice.Zip.{zip_turn, zip_end}
use Rattle.std.proofs.lemmas.List.{length_push}
use Rattle.merkle.specs.Climb.{plain_rule, climb}
use Rattle.merkle.specs.Binding.{collides, found}
use Rattle.merkle.proofs.Chunks.{past_from, past_on, past_end}
use Rattle.collisions.proofs.Levels.{no_difference, collide, no_agreement, pair_hit, pair_miss, up_a, up_b, no_pair}
use Rattle.collisions.proofs.search.search_nodes.Goals as goal
use Rattle.collisions.proofs.search.search_nodes.Goals.{else-differ-via-then-differ+else-eq, else-differ-via-else-differ}

pub returns-then-eq : goal.returns-then-eq
returns-then-eq g c =
    let f = g.H.Hash.meaning in
    let pa = c.args.path_a.now in
    let pb = c.args.path_b.now in
    let below_a = c.of-below_a.result in
    let below_b = c.of-below_b.result in
    let turn = zip_turn pa pb c.loop-sibling_a.yielded c.into_iter-sibling_a-iterator.result c.loop-sibling_a.sibling_a-iterator c.next.new.self _ (cc) (cc) c.loop-sibling_a.yielded_by _ c.in-Some.is c.next.ensures.steps in
    let differ = c.differ.ensures in
    let hit = collide f (1 ∷ (below_a.left ++ below_a.right)) (1 ∷ (below_b.left ++ below_b.right)) c.differ.result differ
    c.eq.result c.parent-a.result c.parent-b.result c.parent-a.ensures c.parent-b.ensures c.eq.ensures c.if-differ.true c.if-eq.true in
    sym c.loop-sibling_a.invariant.0
    ∙ pair_hit f (length c.loop-sibling_a.yielded) c.loop-sibling_a.place pa pb c.loop-sibling_a.a c.loop-sibling_a.b
    c.in-Some.sibling_a.now c.in-Some.sibling_b.now _ _ turn.0 turn.1 (turn.2 []) (turn.3 []) c.of-below_a.ensures c.of-below_b.ensures hit

pub loop-sibling_a-preserved : goal.loop-sibling_a-preserved
loop-sibling_a-preserved g c =
    let f = g.H.Hash.meaning in
    let i = length c.loop-sibling_a.yielded in
    let p = c.loop-sibling_a.place in
    let pa = c.args.path_a.now in
    let pb = c.args.path_b.now in
    let a = c.loop-sibling_a.a in
    let b = c.loop-sibling_a.b in
    let sa = c.in-Some.sibling_a.now in
    let sb = c.in-Some.sibling_b.now in
    let u = c.parent-a.result in
    let v = c.parent-b.result in
    let below_a = c.of-below_a.result in
    let below_b = c.of-below_b.result in
    let x = 1 ∷ (below_a.left ++ below_a.right) in
    let y = 1 ∷ (below_b.left ++ below_b.right) in
    let inv = c.loop-sibling_a.invariant in
    let turn = zip_turn pa pb c.loop-sibling_a.yielded c.into_iter-sibling_a-iterator.result c.loop-sibling_a.sibling_a-iterator c.next.new.self _ (cc) (cc) c.loop-sibling_a.yielded_by _ c.in-Some.is c.next.ensures.steps in
    let differ = c.differ.ensures in
    let miss : collides f x y ≡ false =
    elim c.else-differ.branch [
      | else-differ-via-then-differ+else-eq w ↦ no_agreement f x y c.differ.result differ w.eq.result u v c.parent-a.ensures c.parent-b.ensures w.eq.ensures w.if-eq.false
      | else-differ-via-else-differ w ↦ no_difference f x y c.differ.result differ w.if-differ.false
    ] in
    let more = length_push c.loop-sibling_a.yielded (c.in-Some.sibling_a, c.in-Some.sibling_b) in
    let ea = turn.2 [] in
    let eb = turn.3 [] in (
      ap (λ n. found f (past_from n (p / 2) pa) (past_from n (p / 2) pb) u v) more
          ∙ pair_miss f i p pa pb a b sa sb x y turn.0 turn.1 ea eb c.of-below_a.ensures c.of-below_b.ensures u v miss c.parent-a.ensures c.parent-b.ensures
          ∙ inv.0,
      ap (λ n. climb plain_rule f (past_from n (p / 2) pa) u) more
          ∙ past_on plain_rule f i p pa a sa u turn.0 ea (up_a f i p pa pb a b sa sb x y turn.0 turn.1 ea eb c.of-below_a.ensures c.of-below_b.ensures u c.parent-a.ensures)
          ∙ inv.1,
      ap (λ n. climb plain_rule f (past_from n (p / 2) pb) v) more
          ∙ past_on plain_rule f i p pb b sb v turn.1 eb (up_b f i p pa pb a b sa sb x y turn.0 turn.1 ea eb c.of-below_a.ensures c.of-below_b.ensures v c.parent-b.ensures)
          ∙ inv.2,
    )

pub returns : goal.returns
returns g c =
    let f = g.H.Hash.meaning in
    let p = c.loop-sibling_a.place in
    let pa = c.args.path_a.now in
    let pb = c.args.path_b.now in
    let i = length c.loop-sibling_a.yielded in
    let inv = c.loop-sibling_a.invariant in
    let n = zip_end pa pb c.loop-sibling_a.yielded c.into_iter-sibling_a-iterator.result c.loop-sibling_a.sibling_a-iterator c.next.new.self _ (cc) (cc) c.loop-sibling_a.yielded_by c.in-None.is c.next.ensures.steps in (
      sym inv.0 ∙ no_pair f i p pa pb c.loop-sibling_a.a c.loop-sibling_a.b (omega arith) (omega arith),
      sym (past_end plain_rule f i p pa c.loop-sibling_a.a (omega arith)) ∙ inv.1,
      sym (past_end plain_rule f i p pb c.loop-sibling_a.b (omega arith)) ∙ inv.2,
    )
