use Rattle.std.proofs.Common.{◌≡◌, ◌+◌, ◌*◌, length, take, drop, replicate, refl, ap, ◌∙◌, arith, length-drop}
use Rattle.std.proofs.lemmas.List.{length-take-le}
use Rattle.hash.specs.Digests.{digest_len}
use Rattle.merkle.specs.Climb.{climb_leaf}
use Rattle.evidence.proofs.Climbs.{two_stages, climbed}
use Rattle.evidence.proofs.check.climb_two.Goals as goal

pub returns : goal.returns
returns g c =
    let f = g.H.Hash.meaning in
    let d = c.args.depth in
    let path = c.args.path.now in
    let share = c.args.share.now in
    let front : length (take (digest_len * d) path) ≡ digest_len * d = length-take-le (digest_len * d) path (omega arith) in
    let back : length (drop (digest_len * d) path) ≡ digest_len * (d + 1) = simp length-drop (omega arith) in
    let first : c.climb_leaf.new.out ≡ climb_leaf f c.args.place (take (digest_len * d) path) share =
    climbed f c.args.place _ (take (digest_len * d) path) share (replicate 32 0) _ c.requires.1.0 c.split_at.ensures.front (omega arith) refl c.climb_leaf.ensures.written in
    let second = climbed f c.args.leaf _ (drop (digest_len * d) path) c.climb_leaf.new.out (replicate 32 0) _ (omega (arith, c.climb_leaf.auto.out)) c.split_at.ensures.back (omega arith) refl c.climb_leaf-2.ensures.written in
    second ∙ ap (climb_leaf f c.args.leaf (drop (digest_len * d) path)) first ∙ two_stages f d c.args.place (d + 1) c.args.leaf path share (omega arith)
