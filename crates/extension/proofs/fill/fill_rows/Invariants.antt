use Rattle.std.proofs.Common.{◌≡◌, ℕ, ◌*◌, ◌<◌, get_or}
use Rattle.octets.specs.Shares.{share, byte_of}
use Rattle.codes.specs.Words.{codeword}
use Rattle.extension.proofs.fill.fill_rows.Given as goal

-- the rows that are done
abbrev pub invariant-loop-r : goal.invariant-loop-r
invariant-loop-r g l =
    (r : ℕ) → r < l.r → (x : ℕ) → x < 2 * l.k * l.s
    → byte_of (2 * l.k * l.s) r x l.square ≡ get_or (codeword g.C.Code.table l.k l.s (share (l.k * l.s) r l.shares)) x 0
