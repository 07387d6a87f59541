-- What a digest call answers and writes.
use Rattle.std.specs.Prelude.{ℕ, ◌+◌, cond, List, length, ◌++◌, Ok, Err, Result, ◌==◌, nat_lt}
use Rattle.octets.specs.Outcome.{Refused, plain}
use Rattle.hash.specs.Blocks.{message_limit}

-- the bytes of a digest
abbrev pub digest_len : ℕ
digest_len = 32

-- how many bytes the two parts of a digest may have together
abbrev pub parts_limit : ℕ
parts_limit = 4096

-- parts of n bytes together and a buffer of o bytes: refused by 4 if the parts are too long, then by 3 if the buffer has another
-- length than a digest
abbrev pub digest_outcome : ℕ → ℕ → Result (Unit {0}) Refused
digest_outcome n o = cond (nat_lt parts_limit n) (Err (plain 4)) (cond (o == digest_len) (Ok tt) (Err (plain 3)))

-- the buffer after: the digest d, or what it was where the call is refused
abbrev pub digest_out : ℕ → List ℕ → List ℕ → List ℕ
digest_out n out d = cond (nat_lt parts_limit n) out (cond (length out == digest_len) d out)

-- a message made of three parts: its bytes, or refused by 4 if they are too many
abbrev pub message_outcome : List ℕ → List ℕ → List ℕ → Result (List ℕ) Refused
message_outcome lead left right = cond (nat_lt message_limit (length lead + length left + length right)) (Err (plain 4)) (Ok (lead ++ (left ++ right)))
