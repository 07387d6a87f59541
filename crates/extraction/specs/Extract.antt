-- What extraction answers and writes.
use Rattle.std.specs.Prelude.{◌≡◌, ℕ, true, cond, not, List, length, Some, None, Ok, Err, Option, Result, ◌==◌}
use Rattle.octets.specs.Outcome.{Refused, plain}
use Rattle.octets.specs.Written.{written}
use Rattle.merkle.specs.Binding.{Two}
use Rattle.collisions.specs.Finding.{put_one, put_other, InHand}
use Rattle.codes.specs.Code.{Table, Weight}
use Rattle.header.specs.Fields.{Fields}
use Rattle.square.specs.Extend.{GivenBy}
use Rattle.fraudproof.specs.Proof.{Case}
use Rattle.fraudproof.specs.Form.{case_outcome}
use Rattle.fraud.specs.Accepted.{Accepted}
use Rattle.fraud.specs.Check.{judged}
use Rattle.extraction.specs.Extracted.{square_of, is_header_of, extract_fits, extracted}

-- the common length of two strings
abbrev pub length_of : Option Two → ℕ
length_of None = 0
length_of (Some t) = length t.one

-- a length, where nothing is refused
abbrev pub answered : Result (Unit {0}) Refused → ℕ → Result ℕ Refused
answered (Ok u) n = Ok n
answered (Err e) n = Err e

-- of a proof that was read: refused as it is judged, and else the length of what is extracted with it from the square
abbrev pub extracted_read : (List ℕ → List ℕ) → Weight → Fields → List ℕ → Result Case Refused → Result ℕ Refused
extracted_read f W h sq (Ok p) = answered (judged f W h p) (length_of (extracted f h sq p))
extracted_read f W h sq (Err e) = Err e

-- the two strings
abbrev pub strings_read : (List ℕ → List ℕ) → Fields → List ℕ → Result Case Refused → Option Two
strings_read f h sq (Ok p) = extracted f h sq p
strings_read f h sq (Err e) = None

-- with the square of the data: refused by 27 where the header is not the square's, and then as checking the proof is
abbrev pub extracted_from : (List ℕ → List ℕ) → Weight → Fields → List ℕ → List ℕ → Result ℕ Refused
extracted_from f W h sq bytes = cond (not (is_header_of f h sq)) (Err (plain 27)) (extracted_read f W h sq (case_outcome h bytes))

-- from data d, the bytes of a proof, and strings and a scratch square of a, b and n bytes, under a hash and a code of these kinds: refused
-- by 13 for another hash kind, by 14 for another code kind, by 3 for a wrong length, by 27 for a header that is not the data's, and then
-- as checking the proof is
abbrev pub extract_outcome : (List ℕ → List ℕ) → Weight → Table → ℕ → ℕ → Fields → List ℕ → List ℕ → ℕ → ℕ → ℕ → Result ℕ Refused
extract_outcome f W T hash_kind code_kind h d bytes a b n =
    cond (not (h.hash_kind == hash_kind)) (Err (plain 13)) (cond (not (h.code_kind == code_kind)) (Err (plain 14))
    (cond (not (extract_fits h (length d) a b n)) (Err (plain 3)) (extracted_from f W h (square_of T h d) bytes)))

-- What the buffers x and y of the strings hold after: the proof's string at the front of the first and the square's at that of the
-- second, their rest as it was; where it is refused, what they held.
pub record Writes (f : List ℕ → List ℕ) (h : Fields) (sq bytes : List ℕ) (r : Result ℕ Refused) (x y x' y' : List ℕ) : Type 0 where
  pub one : x' ≡ written r (put_one (strings_read f h sq (case_outcome h bytes)) x) x
  pub other : y' ≡ written r (put_other (strings_read f h sq (case_outcome h bytes)) y) y

-- whatever length is answered, that many bytes of both are a collision in hand
abbrev pub AlwaysInHand : (List ℕ → List ℕ) → Result ℕ Refused → List ℕ → List ℕ → Type 0
AlwaysInHand f r x' y' = (n : ℕ) → r ≡ Ok n → InHand f n x' y'

-- a proof that is accepted for the header that the data give is not refused, with buffers of right length, and gives a collision
abbrev pub AlwaysGives : (List ℕ → List ℕ) → Table → ℕ → ℕ → Fields → List ℕ → List ℕ → ℕ → ℕ → ℕ → Result ℕ Refused → List ℕ → List ℕ → Type 0
AlwaysGives f T hash_kind code_kind h d bytes a b n r x' y' =
    GivenBy f T h d → Accepted f T hash_kind code_kind h bytes → extract_fits h (length d) a b n ≡ true → (m : ℕ) × (r ≡ Ok m) × InHand f m x' y'
