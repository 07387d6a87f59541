use Rattle.std.proofs.Common.{◌≡◌, ◌∷◌, ◌++◌, false, sym, ap, ◌∙◌}
use Rattle.merkle.specs.Climb.{levels, from_node}
use Rattle.merkle.specs.Binding.{collides}
use Rattle.collisions.proofs.Levels.{no_difference, collide, no_agreement, leaf_hit, found_whole, end_whole}
use Rattle.collisions.proofs.Found.{leaves_some, leaves_none}
use Rattle.collisions.proofs.find.find.Goals as goal
use Rattle.collisions.proofs.find.find.Goals.{else-ne-via-then-ne+else-eq, else-ne-via-else-ne}

pub returns-then-eq-clause-finds : goal.returns-then-eq-clause-finds
returns-then-eq-clause-finds g c =
    let f = g.H.Hash.meaning in
    let p = c.args.place in
    let pa = c.args.a.path.now in
    let pb = c.args.b.path.now in
    let v = c.args.a.value.now in
    let w = c.args.b.value.now in
    let hit = collide f (0 ∷ v) (0 ∷ w) c.ne.result c.ne.ensures c.eq.result c.leaf_node-node_a.result c.leaf_node-node_b.result
    c.leaf_node-node_a.ensures c.leaf_node-node_b.ensures c.eq.ensures c.if-ne.true c.if-eq.true in
    leaves_some f p pa pb v w c.requires.paths g.met.H.Hash.sized c.requires.values (record { one = 0 ∷ v; other = 0 ∷ w }) _ _ _ _ _
    (leaf_hit f (from_node (levels pa) p pa) (from_node (levels pb) p pb) v w hit) c.put_leaf-then-eq.ensures.len c.put_leaf-then-eq.ensures.written c.put_leaf.ensures.written

pub returns-in-Break-clause-finds : goal.returns-in-Break-clause-finds
returns-in-Break-clause-finds g c =
    let f = g.H.Hash.meaning in
    let p = c.args.place in
    let pa = c.args.a.path.now in
    let pb = c.args.b.path.now in
    let v = c.args.a.value.now in
    let w = c.args.b.value.now in
    let a = c.leaf_node-node_a.result in
    let b = c.leaf_node-node_b.result in
    let la = c.in-Break.below_a.left in
    let ra = c.in-Break.below_a.right in
    let lb = c.in-Break.below_b.left in
    let rb = c.in-Break.below_b.right in
    let miss : collides f (0 ∷ v) (0 ∷ w) ≡ false =
    elim c.else-ne.branch [
      | else-ne-via-then-ne+else-eq u ↦ no_agreement f (0 ∷ v) (0 ∷ w) c.ne.result c.ne.ensures u.eq.result a b c.leaf_node-node_a.ensures c.leaf_node-node_b.ensures u.eq.ensures u.if-eq.false
      | else-ne-via-else-ne u ↦ no_difference f (0 ∷ v) (0 ∷ w) c.ne.result c.ne.ensures u.if-ne.false
    ] in
    let is =
    found_whole f p pa pb v w a b _ _ c.as_chunks.ensures.front c.as_chunks-2.ensures.front miss c.leaf_node-node_a.ensures c.leaf_node-node_b.ensures in
    leaves_some f p pa pb v w c.requires.paths g.met.H.Hash.sized c.requires.values (record { one = 1 ∷ (la ++ ra); other = 1 ∷ (lb ++ rb) }) _ _ _ _ _
    (sym is ∙ c.in-Break.ensures) c.put-in-Break.ensures.len c.put-in-Break.ensures.written c.put.ensures.written

pub returns-in-Continue-clause-finds : goal.returns-in-Continue-clause-finds
returns-in-Continue-clause-finds g c =
    let f = g.H.Hash.meaning in
    let p = c.args.place in
    let pa = c.args.a.path.now in
    let pb = c.args.b.path.now in
    let v = c.args.a.value.now in
    let w = c.args.b.value.now in
    let a = c.leaf_node-node_a.result in
    let b = c.leaf_node-node_b.result in
    let miss : collides f (0 ∷ v) (0 ∷ w) ≡ false =
    elim c.else-ne.branch [
      | else-ne-via-then-ne+else-eq u ↦ no_agreement f (0 ∷ v) (0 ∷ w) c.ne.result c.ne.ensures u.eq.result a b c.leaf_node-node_a.ensures c.leaf_node-node_b.ensures u.eq.ensures u.if-eq.false
      | else-ne-via-else-ne u ↦ no_difference f (0 ∷ v) (0 ∷ w) c.ne.result c.ne.ensures u.if-ne.false
    ] in
    let is =
    found_whole f p pa pb v w a b _ _ c.as_chunks.ensures.front c.as_chunks-2.ensures.front miss c.leaf_node-node_a.ensures c.leaf_node-node_b.ensures in
    leaves_none f p pa pb v w c.requires.paths g.met.H.Hash.sized c.requires.values _ _ (sym is ∙ c.in-Continue.ensures.0)

pub returns-in-Continue-clause-ends : goal.returns-in-Continue-clause-ends
returns-in-Continue-clause-ends g c e same =
    let f = g.H.Hash.meaning in
    let p = c.args.place in
    let pa = c.args.a.path.now in
    let pb = c.args.b.path.now in
    let v = c.args.a.value.now in
    let w = c.args.b.value.now in
    let a = c.leaf_node-node_a.result in
    let b = c.leaf_node-node_b.result in
    let q : c.in-Continue.ends ≡ e = cc in (
      ap (λ z. z.0) (sym q) ∙ c.in-Continue.ensures.1 ∙ end_whole f p pa v a _ c.as_chunks.ensures.front c.leaf_node-node_a.ensures,
      ap (λ z. z.1) (sym q) ∙ c.in-Continue.ensures.2 ∙ end_whole f p pb w b _ c.as_chunks-2.ensures.front c.leaf_node-node_b.ensures,
    )
