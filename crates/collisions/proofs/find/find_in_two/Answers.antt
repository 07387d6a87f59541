use Rattle.std.proofs.Common.{◌*◌, ◌≤◌, refl, ap, arith}
use Rattle.std.proofs.lemmas.List.{take_rest}
use Rattle.std.specs.ControlFlow.{break_value}
use Rattle.hash.specs.Digests.{digest_len}
use Rattle.merkle.specs.Climb.{levels, from_leaf}
use Rattle.collisions.proofs.Found.{finds_at, two_first, two_then}
use Rattle.collisions.proofs.find.find_in_two.Goals as goal

pub returns-in_err-root_a : goal.returns-in_err-root_a
returns-in_err-root_a g c =
    let d = c.args.depth in
    let pb = c.args.b.path.now in
    let in_b : d ≤ levels pb = omega arith in
    rw c.from_residual.ensures
    (two_first g.H.Hash.meaning d c.args.place c.args.next_place c.args.a.path.now pb c.args.a.value.now c.args.b.value.now c.requires.depth in_b
    _ _ _ _ _ c.in_err-root_a.ensures.finds)

pub returns : goal.returns
returns g c =
    let f = g.H.Hash.meaning in
    let d = c.args.depth in
    let q = c.args.next_place in
    let pa = c.args.a.path.now in
    let pb = c.args.b.path.now in
    let in_b : d ≤ levels pb = omega arith in
    let a = c.in_ok-root_a.root_a in
    let b = c.in_ok-root_a.root_b in
    let ends = c.in_ok-root_a.ensures.ends (a, b) refl in
    two_then f d c.args.place q pa pb c.args.a.value.now c.args.b.value.now c.requires.depth in_b _ _ _ _
    (break_value c.find-2.result) a b _ _ c.in_ok-root_a.ensures.finds ends.0 ends.1
    (finds_at f _ _ a b _ _ a b (break_value c.find-2.result) _ _ _ _
    (ap (λ z. from_leaf (levels z) q z) (take_rest pa (digest_len * d))) (ap (λ z. from_leaf (levels z) q z) (take_rest pb (digest_len * d))) refl refl
    c.find-2.ensures.finds)
