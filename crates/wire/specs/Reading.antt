-- What the bytes of a record say, in the block of a header: the first number that fits refuses it.
use Rattle.std.specs.Prelude.{ℕ, ◌+◌, ◌*◌, Bool, true, false, cond, not, ◌&&◌, ◌||◌, List, length, take, drop, Ok, Err, Result, ◌==◌, nat_le, nat_lt, slice_index}
use Rattle.octets.specs.Outcome.{Refused, plain}
use Rattle.hash.specs.Digests.{digest_len}
use Rattle.erasure.specs.Limits.{ok_width, ok_size}
use Rattle.header.specs.Fields.{Fields}
use Rattle.header.specs.Sizes.{width, roots_len, head_len, header_body_len, group_body_len, share_body_len, claim_body_len, witness_body_len}
use Rattle.wire.specs.Refusals.{refused_at}
use Rattle.wire.specs.Values.{Rec, header, roots, group, share, end, claim, witness}
use Rattle.wire.specs.declared.due.Due.{Due}
use Rattle.wire.specs.declared.due.Due.TheVariants.{Header, Roots, Group, InGroup, Claim, Witness, Nothing, Anything}

-- numbers of two and of four bytes, the lowest byte first
abbrev pub two : ℕ → ℕ → ℕ
two a b = a + b * 256

abbrev pub four : ℕ → ℕ → ℕ → ℕ → ℕ
four a b c d = a + b * 256 + c * 65536 + d * 16777216

-- the head of a record: four bytes for the length of its body, two for its kind
abbrev pub body_len : List ℕ → ℕ
body_len bs = four (slice_index bs 0) (slice_index bs 1) (slice_index bs 2) (slice_index bs 3)

abbrev pub kind_in : List ℕ → ℕ
kind_in bs = two (slice_index bs 4) (slice_index bs 5)

-- the kinds that there are
unfoldable pub is_known : ℕ → Bool
is_known kind = kind == 1 || (kind == 2 || (kind == 3 || (kind == 4 || (kind == 5 || (kind == 16 || kind == 17)))))

-- the kinds that are due at a point: in a group a share or the group's end
unfoldable pub is_due : Due → ℕ → Bool
is_due Header kind = kind == 1
is_due Roots kind = kind == 2
is_due Group kind = kind == 3
is_due InGroup kind = kind == 4 || kind == 5
is_due Claim kind = kind == 16
is_due Witness kind = kind == 17
is_due Nothing kind = false
is_due Anything kind = true

-- the length of the body of a known kind
unfoldable pub body_for : Fields → ℕ → ℕ
body_for h kind =
    cond (kind == 1) header_body_len (cond (kind == 2) (roots_len h) (cond (kind == 3) group_body_len (cond (kind == 4) (share_body_len h)
    (cond (kind == 5) 0 (cond (kind == 16) (claim_body_len h) (witness_body_len h))))))

-- what a body of that length says, by kind
abbrev pub header_in : List ℕ → Rec
header_in b = header (record {
  k = two (slice_index b 0) (slice_index b 1);
  s = two (slice_index b 2) (slice_index b 3);
  hash_kind = slice_index b 4;
  code_kind = slice_index b 5;
  data_root = drop 6 b;
})

abbrev pub group_in : List ℕ → Rec
group_in b = group (slice_index b 0) (two (slice_index b 1) (slice_index b 2))

abbrev pub share_in : Fields → List ℕ → Rec
share_in h b = share (two (slice_index b 0) (slice_index b 1)) (take h.s (drop 2 b)) (drop h.s (drop 2 b))

abbrev pub claim_in : List ℕ → Rec
claim_in b = claim (record { axis = slice_index b 0; index = two (slice_index b 1) (slice_index b 2); root = take digest_len (drop 3 b); path = drop digest_len (drop 3 b) })

abbrev pub witness_in : Fields → List ℕ → Rec
witness_in h b = witness (record { place = two (slice_index b 0) (slice_index b 1); axis = slice_index b 2; share = take h.s (drop 3 b); path = drop h.s (drop 3 b) })

unfoldable pub record_in : Fields → ℕ → List ℕ → Rec
record_in h kind b =
    cond (kind == 1) (header_in b) (cond (kind == 2) (roots b) (cond (kind == 3) (group_in b) (cond (kind == 4) (share_in h b)
    (cond (kind == 5) end (cond (kind == 16) (claim_in b) (witness_in h b))))))

-- an axis is at most 1, an index and a place are below the width, and a header record has an allowed k and s
unfoldable pub in_range : Fields → Rec → Bool
in_range h (header g) = ok_width g.k && ok_size g.s
in_range h (roots b) = true
in_range h (group a i) = nat_le a 1 && nat_lt i (width h)
in_range h (share p s q) = nat_lt p (width h)
in_range h end = true
in_range h (claim c) = nat_le c.axis 1 && nat_lt c.index (width h)
in_range h (witness v) = nat_lt v.place (width h) && nat_le v.axis 1

-- a kind and a length of the body where something is due: refused by 8 for an unknown kind, by 10 for one that is not due, by 9 for
-- another length than the kind has
abbrev pub admitted : Fields → Due → ℕ → ℕ → Result (Unit {0}) Refused
admitted h due kind n =
    cond (not (is_known kind)) (Err (plain 8)) (cond (not (is_due due kind)) (Err (plain 10)) (cond (not (n == body_for h kind)) (Err (plain 9)) (Ok tt)))

-- a record, refused by 11 where a value is out of range, and what lies behind it
abbrev pub ranged : Fields → Rec → List ℕ → Result (Rec × List ℕ) Refused
ranged h r rest = cond (in_range h r) (Ok (r, rest)) (Err (plain 11))

abbrev pub after_head : Result (Unit {0}) Refused → Result (Rec × List ℕ) Refused → Result (Rec × List ℕ) Refused
after_head (Ok t) r = r
after_head (Err e) r = Err e

-- the first record of some bytes, where this is due, and the bytes behind it: refused by 7 where it is cut short, then by its kind and
-- its length, then by 11
unfoldable pub reads : Fields → Due → List ℕ → Result (Rec × List ℕ) Refused
reads h due bs =
    cond (nat_lt (length bs) head_len) (Err (plain 7)) (cond (nat_lt (length (drop head_len bs)) (body_len bs)) (Err (plain 7))
    (after_head (admitted h due (kind_in bs) (body_len bs))
    (ranged h (record_in h (kind_in bs) (take (body_len bs) (drop head_len bs))) (drop (body_len bs) (drop head_len bs)))))

-- the refusal of a record, with the place of its first byte
abbrev pub placed : ℕ → Result (Rec × List ℕ) Refused → Result (Rec × List ℕ) Refused
placed at (Ok x) = Ok x
placed at (Err e) = Err (refused_at e.number at)

-- the record that is due at a place, the bytes from there on being bs: refused by 10 where the bytes end there
unfoldable pub reads_at : Fields → Due → ℕ → List ℕ → Result (Rec × List ℕ) Refused
reads_at h due at bs = cond (length bs == 0) (Err (refused_at 10 at)) (placed at (reads h due bs))
