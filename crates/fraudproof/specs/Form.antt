-- The form of a proof: a claim, and then exactly k witnesses, read record by record.
use Rattle.std.specs.Prelude.{◌≡◌, ℕ, zero, suc, ◌+◌, ◌-◌, ◌*◌, ◌<◌, ◌≤◌, cond, List, [], ◌∷◌, length, Ok, Err, Result, ◌==◌}
use Rattle.octets.specs.Outcome.{Refused, plain}
use Rattle.hash.specs.Digests.{digest_len}
use Rattle.header.specs.Fields.{Fields}
use Rattle.header.specs.Sizes.{width, head_len, claim_body_len, data_path_len}
use Rattle.wire.specs.Values as values
use Rattle.wire.specs.Values.{Rec, header, roots, group, share, end, claim, witness}
use Rattle.wire.specs.Parts.{Spot, after}
use Rattle.wire.specs.Reading.{reads_at}
use Rattle.wire.specs.declared.due.Due.TheVariants as due
use Rattle.fraudproof.specs.Proof.{Case, witness_len, witness_at}
use Rattle.fraudproof.specs.declared.proof.Proof.{Proof}

-- the end of a proof, at a place: whatever is left is refused, since nothing is due
abbrev pub left_over : Result (Rec × List ℕ) Refused → Result (List values.Witness) Refused
left_over (Ok x) = Ok []
left_over (Err e) = Err e

unfoldable pub at_last : Fields → ℕ → List ℕ → Result (List values.Witness) Refused
at_last h at bs = cond (length bs == 0) (Ok []) (left_over (reads_at h due.Nothing at bs))

-- a witness in front of further ones; where a witness is due no other record is read
abbrev pub in_front : values.Witness → Result (List values.Witness) Refused → Result (List values.Witness) Refused
in_front v (Ok vs) = Ok (v ∷ vs)
in_front v (Err e) = Err e

abbrev pub one_more : Rec → Result (List values.Witness) Refused → Result (List values.Witness) Refused
one_more (witness v) r = in_front v r
one_more (header g) r = Err (plain 10)
one_more (roots bs) r = Err (plain 10)
one_more (group a i) r = Err (plain 10)
one_more (share p s q) r = Err (plain 10)
one_more end r = Err (plain 10)
one_more (claim c) r = Err (plain 10)

abbrev pub go_on : (ℕ → List ℕ → Result (List values.Witness) Refused) → ℕ → ℕ → Result (Rec × List ℕ) Refused → Result (List values.Witness) Refused
go_on go at n (Ok x) = one_more x.0 (go (at + (n - length x.1)) x.1)
go_on go at n (Err e) = Err e

-- the bytes from a place on as n witnesses, and then the end
unfoldable pub witnesses_from : Fields → ℕ → ℕ → List ℕ → Result (List values.Witness) Refused
witnesses_from h zero at bs = at_last h at bs
witnesses_from h (suc n) at bs = go_on (witnesses_from h n) at (length bs) (reads_at h due.Witness at bs)

-- a claim with its witnesses
abbrev pub with_claim : values.Claim → Result (List values.Witness) Refused → Result Case Refused
with_claim c (Ok vs) = Ok (record { claim = c; witnesses = vs })
with_claim c (Err e) = Err e

abbrev pub claimed : Rec → Result (List values.Witness) Refused → Result Case Refused
claimed (claim c) r = with_claim c r
claimed (header g) r = Err (plain 10)
claimed (roots bs) r = Err (plain 10)
claimed (group a i) r = Err (plain 10)
claimed (share p s q) r = Err (plain 10)
claimed end r = Err (plain 10)
claimed (witness v) r = Err (plain 10)

abbrev pub behind_claim : Fields → ℕ → Result (Rec × List ℕ) Refused → Result Case Refused
behind_claim h n (Ok x) = claimed x.0 (witnesses_from h h.k (n - length x.1) x.1)
behind_claim h n (Err e) = Err e

-- the bytes of a proof: a claim at the start, then the witnesses; refused by 7, 8, 10, 9, 11 with the byte place of the record
unfoldable pub case_outcome : Fields → List ℕ → Result Case Refused
case_outcome h bs = behind_claim h (length bs) (reads_at h due.Claim 0 bs)

-- what holds of a proof that was read: its values are in range, and its parts have the block's lengths
pub record Formed (h : Fields) (p : Proof) : Type 0 where
  pub axis_low : p.axis ≤ 1
  pub index_low : p.index < width h
  pub root_long : length p.root.now ≡ digest_len
  pub path_long : length p.path.now ≡ data_path_len h
  pub witnesses_long : length p.witnesses.now ≡ h.k * witness_len h
  pub places_low : (i : ℕ) → i < h.k → (witness_at h p.witnesses.now i).place < width h
  pub axes_low : (i : ℕ) → i < h.k → (witness_at h p.witnesses.now i).axis ≤ 1

-- where its parts begin in the proof's bytes, which begin at b: the root behind the head, the axis and the index, the path behind the
-- root, the witnesses behind the claim record
pub record Lies (h : Fields) (b : Spot) (p : Proof) : Type 0 where
  pub root_at : p.root.ref_ptr ≡ after b (head_len + 3)
  pub path_at : p.path.ref_ptr ≡ after b (head_len + 3 + digest_len)
  pub witnesses_at : p.witnesses.ref_ptr ≡ after b (head_len + claim_body_len h)
