use Rattle.std.proofs.Common.{◌≡◌, ◌+◌, ◌-◌, ◌*◌, ◌^◌, ◌<◌, ◌≤◌, ◌++◌, take, drop}
use Rattle.hash.specs.Digests.{digest_len}
use Rattle.merkle.specs.Layout.{path_of}
use Rattle.layout.proofs.cut.copy_path.Given as goal

abbrev pub invariant-loop-h : goal.invariant-loop-h
invariant-loop-h l =
    (take (digest_len * l.h) l.out ++ path_of (l.depth - l.h) l.place (drop (digest_len * l.start) l.tree) ≡ path_of l.depth l.initial.place l.tree)
    × (l.width ≡ 2 ^ (l.depth - l.h))
    × (l.place < l.width)
    × (l.start + 2 * l.width ≡ 2 * l.n)
    × (l.width ≤ l.n)
