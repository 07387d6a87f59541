use Rattle.std.proofs.Common.{◌≡◌, ◌+◌, ◌-◌, ◌*◌, ◌≤◌, length, take, drop, ap, ◌∙◌, arith, length-drop, length-take}
use Rattle.octets.specs.Shares.{share}
use Rattle.octets.proofs.Shares.{share_read}
use Rattle.hash.specs.Digests.{parts_limit}
use Rattle.merkle.specs.Climb.{plain_rule, leaf_of}
use Rattle.commitment.proofs.Trees.{leaf_given}
use Rattle.commitment.proofs.stride.leaf.Goals as goal

pub returns : goal.returns
returns g c =
    let i = c.args.n in
    let s = c.args.size in
    let values = c.args.values.now in
    let read : take (i * s + s - i * s) (drop (i * s) values) ≡ share s i values = share_read s i values in
    let few : length (take (i * s + s - i * s) (drop (i * s) values)) ≤ parts_limit = simp (length-take, length-drop) (omega arith) in
    c.unwrap_or.ensures
    ∙ leaf_given c.leaf.result _ _ _ parts_limit few c.leaf.ensures
    ∙ ap (leaf_of plain_rule g.H.Hash.meaning) read
