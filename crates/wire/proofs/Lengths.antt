-- Bodies are short.
use Rattle.std.proofs.Common.{ℕ, ◌≤◌, arith}
use Rattle.std.proofs.lemmas.Bool.Decides.{nat_tests}
use Rattle.erasure.proofs.Bounds.{width_most, size_most}
use Rattle.header.specs.Fields.{Fields}
use Rattle.header.specs.Sizes.{roots_len, share_body_len, claim_body_len, witness_body_len}
use Rattle.header.proofs.Measures.{Allowed, depth_most}
use Rattle.wire.specs.Reading.{body_for}

pub body_short : (h : Fields) → Allowed h → (kind : ℕ) → body_for h kind ≤ 5000
unfolding body_for
body_short h a kind =
    let d = depth_most h.k in
    let k = width_most h.k a.wide in
    let s = size_most h.s a.sized in
    let p1 : roots_len h ≤ 5000 = omega arith in
    let p2 : share_body_len h ≤ 5000 = omega arith in
    let p3 : claim_body_len h ≤ 5000 = omega arith in
    let p4 : witness_body_len h ≤ 5000 = omega arith in
    grind (arith, nat_tests)
