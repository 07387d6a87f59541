-- What a digest call answers and writes where nothing is to be refused, and where something is.
use Rattle.std.proofs.Common.{◌≡◌, ℕ, ◌≤◌, List, length, Ok, Err, Result, arith}
use Rattle.std.proofs.lemmas.Bool.{le-ltb, eq-eqb}
use Rattle.std.proofs.lemmas.Bool.Decides.{nat_tests}
use Rattle.octets.specs.Outcome.{Refused}
use Rattle.hash.specs.Digests.{digest_len, parts_limit, digest_outcome, digest_out}

pub answer_ok : (n o : ℕ) → n ≤ parts_limit → o ≡ digest_len → digest_outcome n o ≡ Ok tt
answer_ok n o h e = rw (le-ltb parts_limit n h, eq-eqb o digest_len e)

pub out_ok : (n : ℕ) (out d : List ℕ) → n ≤ parts_limit → length out ≡ digest_len → digest_out n out d ≡ d
out_ok n out d h e = rw (le-ltb parts_limit n h, eq-eqb (length out) digest_len e)

-- what was answered Ok was within the limits
pub admitted : (n o : ℕ) → ◌≡◌ {A = Result (Unit {0}) Refused} (Ok tt) (digest_outcome n o) → (n ≤ parts_limit) × (o ≡ digest_len)
admitted n o e = (grind (arith, nat_tests), grind (arith, nat_tests))

-- what was refused left the buffer alone
pub out_refused : (n : ℕ) (out d : List ℕ) (e : Refused) → ◌≡◌ {A = Result (Unit {0}) Refused} (Err e) (digest_outcome n (length out)) → digest_out n out d ≡ out
out_refused n out d e h = grind (arith, nat_tests)
