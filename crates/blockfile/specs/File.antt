-- What an opened file means, and what an opening leaves.
use Rattle.std.specs.Prelude.{◌≡◌, ℕ, ◌+◌, ◌≤◌, List, [], length, drop, Ok, Err, Option, Result}
use Rattle.octets.specs.Outcome.{Refused}
use Rattle.header.specs.Fields.{Fields, fields_of}
use Rattle.header.specs.declared.header.Header.{Header}
use Rattle.header.specs.Sizes.{head_len, header_body_len, roots_len}
use Rattle.evidence.specs.Evidence.{Evidence}
use Rattle.wire.specs.Values.{header, roots}
use Rattle.wire.specs.Reading.{reads_at}
use Rattle.wire.specs.declared.due.Due.TheVariants as due
use Rattle.blockfile.specs.declared.file.BlockFile.{BlockFile}
use Rattle.blockfile.specs.declared.refusal.FileRefusal.{FileRefusal}
use Rattle.blockfile.specs.Index.{indexed}
use Rattle.blockfile.specs.Refusals.{told}
use Rattle.blockfile.specs.Walk.{Block, shown_in, no_block}

-- for each cell nothing or one evidence
abbrev pub evidence_of : BlockFile → ℕ → ℕ → Option Evidence
evidence_of f r c = indexed (fields_of f.header) f.bytes.now f.index r c

-- an opened file means the block that its bytes are
pub record Means (f : BlockFile) (b : Block) : Type 0 where
  pub head : fields_of f.header ≡ b.head
  pub roots_are : f.roots.now ≡ b.roots
  pub cells : (r c : ℕ) → evidence_of f r c ≡ shown_in b.shares r c

-- opening: the file means the block, or, refused, is what it was
abbrev pub Opens : BlockFile → Result Block Refused → BlockFile → Type 0
Opens before (Ok b) after = Means after b
Opens before (Err e) after = after ≡ before

-- ---- the first two records

-- the bytes of a header record, and the place behind the roots
abbrev pub roots_place : ℕ
roots_place = head_len + header_body_len

abbrev pub groups_place : Fields → ℕ
groups_place h = roots_place + (head_len + roots_len h)

pub record HeadIs (bs : List ℕ) (h : Fields) : Type 0 where
  pub reads : reads_at no_block due.Header 0 bs ≡ Ok (header h, drop roots_place bs)
  pub long : roots_place ≤ length bs

abbrev pub HeadRead : List ℕ → Result Header FileRefusal → Type 0
HeadRead bs (Ok h) = HeadIs bs (fields_of h)
HeadRead bs (Err e) = reads_at no_block due.Header 0 bs ≡ Err (told e)

pub record RootsAre (h : Fields) (bs rs : List ℕ) : Type 0 where
  pub reads : reads_at h due.Roots roots_place (drop roots_place bs) ≡ Ok (roots rs, drop (groups_place h) bs)
  pub long : groups_place h ≤ length bs

-- a block of no shares, of which nothing is known
abbrev pub nothing : Block
nothing = record { head = no_block; roots = []; shares = [] }
