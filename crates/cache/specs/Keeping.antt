-- What a checking cache means and what it keeps.
use Rattle.std.specs.Prelude.{◌≡◌, ℕ, ◌+◌, ◌-◌, ◌^◌, min, Bool, cond, ◌&&◌, List, [], ◌∷◌, ◌++◌, map, take, drop, Some, None, Ok, Err, Option, Result, ◌==◌, slice_index_or}
use Rattle.octets.specs.Outcome.{Refused}
use Rattle.header.specs.Fields.{Fields}
use Rattle.header.specs.Sizes.{path_len}
use Rattle.evidence.specs.Evidence.{Evidence}
use Rattle.store.specs.Meaning.{Meaning, block}
use Rattle.store.specs.Taking.{taken}
use Rattle.cache.specs.declared.kept.Kept.{Kept}

-- the header has the k and the share size of the store below, and the kind of the hash. The code kind is not compared.
abbrev pub header_fits : ℕ → Fields → Meaning → Bool
header_fits kind h m = h.k == m.k && (h.s == m.s && h.hash_kind == kind)

-- what the cache means over a store that means m: the evidence taken, and nothing at all where the header does not fit
abbrev pub checked : (List ℕ → List ℕ) → ℕ → Fields → Meaning → Meaning
checked f kind h m = record { k = m.k; s = m.s; at = λ r c. cond (header_fits kind h m) (taken f h m r c) None }

-- ---- what is kept: places in the order of arrival, each of them empty or with an answer

-- an answer: a cell, and the evidence that was shown there
pub record Answer : Type 0 where
  pub row : ℕ
  pub col : ℕ
  pub evidence : Evidence

abbrev pub evidence_of : Option Answer → Option Evidence
evidence_of None = None
evidence_of (Some a) = Some a.evidence

-- the answer that evidence at a cell makes
abbrev pub answer_at : ℕ → ℕ → Option Evidence → Option Answer
answer_at r c None = None
answer_at r c (Some e) = Some (record { row = r; col = c; evidence = e })

-- the answers that the places of a cache over a store of this k and this share size hold
abbrev pub answer_in : ℕ → ℕ → Kept → Answer
answer_in k s v =
    record { row = v.cell.row; col = v.cell.col; evidence = record { axis = v.axis; share = take s v.share; path = take (path_len (block k s)) v.path } }

abbrev pub place_in : ℕ → ℕ → Option Kept → Option Answer
place_in k s None = None
place_in k s (Some v) = Some (answer_in k s v)

abbrev pub places : ℕ → ℕ → List (Option Kept) → List (Option Answer)
places k s = map (place_in k s)

-- one more comes in behind the others, and what stood in the first place goes
abbrev pub pushed : {A : Type 0} → List A → A → List A
pushed xs x = drop 1 xs ++ (x ∷ [])

-- the evidence that is kept for cell (r, c)
unfoldable pub kept_for : ℕ → ℕ → List (Option Answer) → Option Evidence
kept_for r c [] = None
kept_for r c (None ∷ ks) = kept_for r c ks
kept_for r c (Some a ∷ ks) = cond (a.row == r && a.col == c) (Some a.evidence) (kept_for r c ks)

-- ---- a question q for cell (r, c), where `hit` is kept for it and v is what the cache means there

-- what is kept after: a new answer that verifies comes in, and nothing else changes what is kept
abbrev pub kept_after : Result (Unit {0}) Refused → Option Evidence → ℕ → ℕ → Option Evidence → List (Option Answer) → List (Option Answer)
kept_after (Err e) hit r c v ks = ks
kept_after (Ok t) (Some e) r c v ks = ks
kept_after (Ok t) None r c None ks = ks
kept_after (Ok t) None r c (Some e) ks = pushed ks (Some (record { row = r; col = c; evidence = e }))

-- the count after: one more if the question went below, which is every question that is neither refused nor answered from what is
-- kept. It stops at its largest value.
abbrev pub count_after : Result (Unit {0}) Refused → Option Evidence → ℕ → ℕ
count_after (Err e) hit n = n
count_after (Ok t) (Some e) n = n
count_after (Ok t) None n = min (n + 1) (2 ^ 64 - 1)

-- a question that is answered from what is kept leaves the whole cache, with the store below, as it was
abbrev pub Unasked : {A : Type 0} → Option Evidence → A → A → Type 0
Unasked None before after = Unit {0}
Unasked (Some e) before after = after ≡ before

-- each kept answer is what the cache means at its cell: it verifies, and the store below shows it there
abbrev pub Keeps : Meaning → List (Option Answer) → Type 0
Keeps m ks = (i : ℕ) (a : Answer) → slice_index_or ks i None ≡ Some a → m.at a.row a.col ≡ Some a.evidence

-- the rule of order
abbrev pub CacheOrder : Type 0 → Meaning → List (Option Answer) → Type 0
CacheOrder below m ks = below × Keeps m ks

-- what a question that went below brings: the answer to be kept
pub record Brings (f : List ℕ → List ℕ) (kind : ℕ) (h : Fields) (m m' : Meaning) (order : Type 0) (r c : ℕ) (v : Option Kept) : Type 0 where
  pub is : place_in m.k m.s v ≡ answer_at r c ((checked f kind h m).at r c)
  pub same : m' ≡ m
  pub kept : order
