-- A record that was read: what it says, and where its parts begin in the input.
use Rattle.std.specs.Prelude.{◌≡◌, ℕ, ◌+◌, List}
use Rattle.std.specs.Borrow.{Bor}
use Rattle.hash.specs.Digests.{digest_len}
use Rattle.header.specs.Fields.{Fields}
use Rattle.wire.specs.Values.{Rec, header, roots, group, share, end, claim, witness}
use Rattle.wire.specs.declared.record.Record.{Record}
use Rattle.wire.specs.declared.record.Record.TheVariants.{Header, Roots, Group, Share, GroupEnd, Claim, Witness}

abbrev pub value_of : Record → Rec
value_of (Header k s hash code root) = header (record { k = k; s = s; hash_kind = hash; code_kind = code; data_root = root.now })
value_of (Roots bs) = roots bs.now
value_of (Group axis index) = group axis index
value_of (Share place sh path) = share place sh.now path.now
value_of GroupEnd = end
value_of (Claim axis index root path) = claim (record { axis = axis; index = index; root = root.now; path = path.now })
value_of (Witness place axis sh path) = witness (record { place = place; axis = axis; share = sh.now; path = path.now })

-- a record and the bytes behind it
abbrev pub read_of : Record × Bor (List ℕ) → Rec × List ℕ
read_of x = (value_of x.0, x.1.now)

-- a place in memory, and the place n bytes further on
abbrev pub Spot : Type 0
Spot = ℕ × ℕ

abbrev pub after : Spot → ℕ → Spot
after p n = (p.0, p.1 + n)

-- where the parts of a record begin, its body beginning at p
abbrev pub Begins : Fields → Spot → Record → Type 0
Begins h p (Header k s hash code root) = root.ref_ptr ≡ after p 6
Begins h p (Roots bs) = bs.ref_ptr ≡ after p 0
Begins h p (Group axis index) = Unit {0}
Begins h p (Share place sh path) = (sh.ref_ptr ≡ after p 2) × (path.ref_ptr ≡ after p (2 + h.s))
Begins h p GroupEnd = Unit {0}
Begins h p (Claim axis index root path) = (root.ref_ptr ≡ after p 3) × (path.ref_ptr ≡ after p (3 + digest_len))
Begins h p (Witness place axis sh path) = (sh.ref_ptr ≡ after p 3) × (path.ref_ptr ≡ after p (3 + h.s))
