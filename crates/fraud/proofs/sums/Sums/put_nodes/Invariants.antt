use Rattle.std.proofs.Common.{◌≡◌, ℕ, ◌*◌, ◌<◌, ◌≤◌, length, drop}
use Rattle.octets.specs.Shares.{share}
use Rattle.merkle.specs.Climb.{plain_rule, leaf_of, slot}
use Rattle.erasure.specs.Rows.{row_sum}
use Rattle.header.specs.Fields.{fields_of}
use Rattle.fraudproof.specs.Proof.{witness_len}
use Rattle.fraud.proofs.sums.Sums.put_nodes.Given as goal

abbrev pub invariant-loop-i : goal.invariant-loop-i
invariant-loop-i g l =
    ((j : ℕ) → j < l.i-iterator.count → slot j l.entries ≡ leaf_of plain_rule g.H.Hash.meaning (row_sum (share l.k j l.self.rows.now) (witness_len (fields_of l.self.shown.header.now)) 9 l.self.shown.header.now.s l.self.shown.records.now))
    × ((l.i-iterator.iter.size ≡ l.k)
    × ((l.i-iterator.count * l.k ≤ length l.self.rows.now) × (l.i-iterator.iter.rest.now ≡ drop (l.i-iterator.count * l.k) l.self.rows.now)))
