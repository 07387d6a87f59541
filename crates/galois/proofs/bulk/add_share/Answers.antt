use Rattle.std.proofs.Common.{◌≡◌, ℕ, ◌<◌, ◌≤◌, List, length, get_or, min, sym, ap, ◌∙◌, ⊎_elim, arith}
use lib.Bits.{bit_xor, xor_zero_r}
use Rattle.std.proofs.lemmas.List.{ext_get_or, get_or_past}
use Rattle.std.proofs.lemmas.Bool.{cases_lt}
use Rattle.galois.specs.Vectors.{added}
use Rattle.galois.proofs.Vectors.{length_added, get_d_added}
use Rattle.galois.proofs.bulk.add_share.Goals as goal

-- where one of the two has ended, nothing is added
whole : (xs ys out : List ℕ) (n : ℕ) → length out ≡ length xs → min (length xs) (length ys) ≤ n
    → ((k : ℕ) → k < n → get_or out k 0 ≡ bit_xor (get_or xs k 0) (get_or ys k 0))
    → ((k : ℕ) → n ≤ k → get_or out k 0 ≡ get_or xs k 0) → out ≡ added xs ys
whole xs ys out n long ends sums rest =
    ext_get_or 0 out (added xs ys) (long ∙ sym (length_added xs ys))
    (λ k h.
    let inside : k < length xs = omega arith in
    ⊎_elim (sums k) (λ past.
    rest k past ∙ sym (xor_zero_r (get_or xs k 0))
    ∙ ap (bit_xor (get_or xs k 0)) (sym (get_or_past ys k 0 (omega arith))))
    (cases_lt k n) ∙ sym (get_d_added xs ys k inside))

pub returns : goal.returns
returns c =
    whole c.args.sum.now c.args.share.now c.loop-i.sum c.loop-i.i c.loop-i.auto.sum (omega arith) c.loop-i.invariant.0 c.loop-i.invariant.1
