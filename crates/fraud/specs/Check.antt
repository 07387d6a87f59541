-- What checking a proof answers, the first refusal that fits, by number and value.
use Rattle.std.specs.Prelude.{◌≡◌, ℕ, ◌+◌, ◌*◌, Bool, cond, not, List, [], ◌∷◌, map, Some, None, Ok, Err, Option, Result, ◌==◌}
use Rattle.std.specs.List.{range_with_len}
use Rattle.std.specs.Str.{bytes_eq}
use Rattle.octets.specs.Outcome.{Refused, plain}
use Rattle.octets.specs.Shares.{byte_of, buffer}
use Rattle.merkle.specs.Climb.{Node}
use Rattle.codes.specs.Code.{Table, Weight, applied}
use Rattle.codes.specs.Words.{at}
use Rattle.erasure.specs.Places.{rising_below}
use Rattle.header.specs.Fields.{Fields}
use Rattle.header.specs.Sizes.{width, depth}
use Rattle.commitment.specs.Values.{value_root}
use Rattle.wire.specs.Values.{Witness}
use Rattle.fraudproof.specs.Proof.{Case, witness_at}
use Rattle.fraudproof.specs.Form.{case_outcome}
use Rattle.fraud.specs.Accepted.{is_committed, vouches, places_of, shares_of, Condemns, Accepted}

-- the k witnesses of records that lie one after the other
abbrev pub witnesses_in : Fields → List ℕ → List Witness
witnesses_in h ws = map (witness_at h ws) (range_with_len 0 h.k)

-- the number, counted on from n, of the first witness that fails a test
unfoldable pub first_failing : (Witness → Bool) → ℕ → List Witness → Option ℕ
first_failing test n [] = None
first_failing test n (w ∷ ws) = cond (test w) (first_failing test (n + 1) ws) (Some n)

-- the codeword through k shares of s bytes at the places ps, as the weights W of the code give it
unfoldable pub word_by : Weight → ℕ → ℕ → List ℕ → List ℕ → List ℕ
word_by W k s ps xs = buffer (2 * k) s (λ i b. applied k (W k (at ps) i) (λ j. byte_of s j b xs))

-- the root of the tree over it, for the places and shares of witnesses
abbrev pub word_root : (List ℕ → List ℕ) → Weight → Fields → List Witness → Node
word_root f W h ws = value_root f (depth h) h.s (word_by W h.k h.s (places_of ws) (shares_of ws))

-- refused by 20 and the witness's number, or else as what follows
abbrev pub unverified : Option ℕ → Result (Unit {0}) Refused → Result (Unit {0}) Refused
unverified None r = r
unverified (Some i) r = Err (record { number = 20; values = i ∷ [] })

-- of a proof that was read: refused by 18 where the claimed root is not committed, by 19 where the places do not rise, by 20 at the first
-- witness that does not verify, by 21 where the codeword through the witnesses has the claimed root
abbrev pub judged : (List ℕ → List ℕ) → Weight → Fields → Case → Result (Unit {0}) Refused
judged f W h p =
    cond (not (is_committed f h p.claim)) (Err (plain 18)) (cond (not (rising_below (width h) (places_of p.witnesses))) (Err (plain 19))
    (unverified (first_failing (vouches f h p.claim) 0 p.witnesses)
    (cond (bytes_eq (word_root f W h p.witnesses) p.claim.root) (Err (plain 21)) (Ok tt))))

-- nothing is refused exactly if the proof condemns the block
pub record Decides (f : List ℕ → List ℕ) (T : Table) (h : Fields) (p : Case) (r : Result (Unit {0}) Refused) : Type 0 where
  pub sound : r ≡ Ok tt → Condemns f T h p
  pub complete : Condemns f T h p → r ≡ Ok tt

-- what was read is judged; what cannot be read is refused as the reader does
abbrev pub judged_read : (List ℕ → List ℕ) → Weight → Fields → Result Case Refused → Result (Unit {0}) Refused
judged_read f W h (Ok p) = judged f W h p
judged_read f W h (Err e) = Err e

-- of the bytes of a proof, under a hash and a code of these kinds: refused by 13 for another hash kind, by 14 for another code kind, by
-- 7, 8, 10, 9, 11 with a byte place as reading refuses, and then as a proof that was read is
abbrev pub check_outcome : (List ℕ → List ℕ) → Weight → ℕ → ℕ → Fields → List ℕ → Result (Unit {0}) Refused
check_outcome f W hash_kind code_kind h bytes =
    cond (not (h.hash_kind == hash_kind)) (Err (plain 13)) (cond (not (h.code_kind == code_kind)) (Err (plain 14)) (judged_read f W h (case_outcome h bytes)))

-- nothing is refused exactly if the bytes are accepted
pub record Accepts (f : List ℕ → List ℕ) (T : Table) (hash_kind code_kind : ℕ) (h : Fields) (bytes : List ℕ) (r : Result (Unit {0}) Refused) : Type 0 where
  pub sound : r ≡ Ok tt → Accepted f T hash_kind code_kind h bytes
  pub complete : Accepted f T hash_kind code_kind h bytes → r ≡ Ok tt
