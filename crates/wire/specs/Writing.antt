-- What a record is written as, and when it is written.
use Rattle.std.specs.Prelude.{◌≡◌, ℕ, ◌+◌, ◌/◌, ◌%◌, Bool, true, cond, not, ◌&&◌, List, [], ◌∷◌, ◌++◌, length, Ok, Err, Result, ◌==◌}
use Rattle.octets.specs.Outcome.{Refused, plain}
use Rattle.hash.specs.Digests.{digest_len}
use Rattle.header.specs.Fields.{Fields}
use Rattle.header.specs.Sizes.{head_len, roots_len, path_len, data_path_len}
use Rattle.wire.specs.Values.{Rec, header, roots, group, share, end, claim, witness}
use Rattle.wire.specs.Reading.{body_for, in_range, reads}
use Rattle.wire.specs.declared.due.Due.TheVariants.{Anything}

-- a number of two bytes, the lowest first
abbrev pub le2 : ℕ → List ℕ
le2 n = n % 256 ∷ n / 256 % 256 ∷ []

abbrev pub head_of : ℕ → ℕ → List ℕ
head_of len kind = len % 256 ∷ len / 256 % 256 ∷ len / 65536 % 256 ∷ len / 16777216 % 256 ∷ le2 kind

-- a body with its head
abbrev pub framed : ℕ → List ℕ → List ℕ
framed kind body = head_of (length body) kind ++ body

abbrev pub kind_of : Rec → ℕ
kind_of (header g) = 1
kind_of (roots bs) = 2
kind_of (group a i) = 3
kind_of (share p s q) = 4
kind_of end = 5
kind_of (claim c) = 16
kind_of (witness v) = 17

-- a body: numbers, and then up to two runs of bytes
abbrev pub numbers_of : Rec → List ℕ
numbers_of (header g) = g.k % 256 ∷ g.k / 256 % 256 ∷ g.s % 256 ∷ g.s / 256 % 256 ∷ g.hash_kind ∷ g.code_kind ∷ []
numbers_of (roots bs) = []
numbers_of (group a i) = a ∷ le2 i
numbers_of (share p s q) = le2 p
numbers_of end = []
numbers_of (claim c) = c.axis ∷ le2 c.index
numbers_of (witness v) = v.place % 256 ∷ v.place / 256 % 256 ∷ v.axis ∷ []

abbrev pub first_of : Rec → List ℕ
first_of (header g) = g.data_root
first_of (roots bs) = bs
first_of (group a i) = []
first_of (share p s q) = s
first_of end = []
first_of (claim c) = c.root
first_of (witness v) = v.share

abbrev pub second_of : Rec → List ℕ
second_of (header g) = []
second_of (roots bs) = []
second_of (group a i) = []
second_of (share p s q) = q
second_of end = []
second_of (claim c) = c.path
second_of (witness v) = v.path

abbrev pub body_of : Rec → List ℕ
body_of r = numbers_of r ++ (first_of r ++ second_of r)

unfoldable pub bytes_of : Rec → List ℕ
bytes_of r = framed (kind_of r) (body_of r)

-- shares, paths and roots have the block's lengths
unfoldable pub parts_fit : Fields → Rec → Bool
parts_fit h (header g) = length g.data_root == digest_len
parts_fit h (roots bs) = length bs == roots_len h
parts_fit h (group a i) = true
parts_fit h (share p s q) = length s == h.s && length q == path_len h
parts_fit h end = true
parts_fit h (claim c) = length c.root == digest_len && length c.path == data_path_len h
parts_fit h (witness v) = length v.share == h.s && length v.path == path_len h

-- the length of a record in a block
abbrev pub record_len : Fields → Rec → ℕ
record_len h r = head_len + body_for h (kind_of r)

-- the parts and a target of n bytes have the right lengths
abbrev pub target_fits : Fields → Rec → ℕ → Bool
target_fits h r n = parts_fit h r && n == record_len h r

-- writing a record to a target of n bytes: refused by 11 for a value out of range, by 3 for a part or a target of another length
abbrev pub write_outcome : Fields → Rec → ℕ → Result (Unit {0}) Refused
write_outcome h r n = cond (not (in_range h r)) (Err (plain 11)) (cond (not (target_fits h r n)) (Err (plain 3)) (Ok tt))

-- ---- round trips

-- the record r was read from some bytes: written again, it gives these bytes
pub record WritesBack (h : Fields) (bs : List ℕ) (r : Rec) (rest : List ℕ) : Type 0 where
  pub same : bs ≡ bytes_of r ++ rest
  pub writes : write_outcome h r (length (bytes_of r)) ≡ Ok tt

-- the record r was written as some bytes: read again, they give this record and nothing is left over
abbrev pub ReadsBack : Fields → Rec → List ℕ → Type 0
ReadsBack h r out = reads h Anything out ≡ Ok (r, [])
