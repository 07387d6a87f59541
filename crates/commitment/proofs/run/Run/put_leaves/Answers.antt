use Rattle.std.proofs.Common.{◌≡◌, ◌+◌, ◌*◌, ◌^◌, ◌∙◌, arith}
use Rattle.octets.proofs.Shares.{share_end}
use Rattle.commitment.proofs.Trees.{leaves_is}
use Rattle.commitment.proofs.run.Run.put_leaves.Goals as goal

pub put_leaves-requires-clause-inside : goal.put_leaves-requires-clause-inside
put_leaves-requires-clause-inside g c =
    let s = c.args.self.now in
    let n : c.leaves.result ≡ 2 ^ s.depth = c.leaves.ensures ∙ leaves_is s.depth s.deep in
    λ j l. share_end (0 + j * 1) (2 ^ s.depth) s.size _ (omega (arith, n, l)) s.whole
