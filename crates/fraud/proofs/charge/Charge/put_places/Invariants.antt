use Rattle.std.proofs.Common.{◌≡◌, ℕ, ◌-◌, ◌<◌, ◌≤◌, map, get_or}
use Rattle.std.specs.List.{range_with_len}
use Rattle.fraudproof.specs.Left.{witnesses_left}
use Rattle.fraudproof.specs.Proof.{witness_at}
use Rattle.fraud.specs.Charge.{block_of}
use Rattle.fraud.proofs.charge.Charge.put_places.Given as goal

abbrev pub invariant-loop-i : goal.invariant-loop-i
invariant-loop-i l =
    ((j : ℕ) → j < l.i-iterator.count → get_or l.places j 0 ≡ (witness_at (block_of l.self) l.self.proof.witnesses.now j).place)
    × ((l.i-iterator.count ≤ l.self.header.now.k)
    × (witnesses_left l.i-iterator.iter ≡ map (witness_at (block_of l.self) l.self.proof.witnesses.now) (range_with_len l.i-iterator.count (l.self.header.now.k - l.i-iterator.count))))
