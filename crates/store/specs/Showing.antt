-- What a store shows when it is asked for a cell.
use Rattle.std.specs.Prelude.{◌≡◌, ℕ, cond, not, List, length, Some, None, Ok, Err, Option, Result}
use Rattle.octets.specs.Outcome.{Refused, plain}
use Rattle.octets.specs.Written.{written}
use Rattle.erasure.specs.Limits.{ok_width, ok_size}
use Rattle.header.specs.declared.cell.Axis.{Axis}
use Rattle.header.specs.Sizes.{has_cell}
use Rattle.evidence.specs.Evidence.{Evidence, evidence_fits}
use Rattle.store.specs.Meaning.{Meaning, block}

-- a question to a store of this k and this share size, with buffers of n and p bytes for the share and the path: refused by 15 for a
-- cell outside, by 3 for a buffer of wrong length, whatever is at the cell
unfoldable pub asked : ℕ → ℕ → ℕ → ℕ → ℕ → ℕ → Result (Unit {0}) Refused
asked k s r c n p =
    cond (not (has_cell (block k s) r c)) (Err (plain 15)) (cond (not (evidence_fits (block k s) n p)) (Err (plain 3)) (Ok tt))

-- the same where k and the share size may be any numbers: refused first by 1 for a wrong k and by 2 for a wrong share size
abbrev pub question_outcome : ℕ → ℕ → ℕ → ℕ → ℕ → ℕ → Result (Unit {0}) Refused
question_outcome k s r c n p = cond (not (ok_width k)) (Err (plain 1)) (cond (not (ok_size s)) (Err (plain 2)) (asked k s r c n p))

-- the axis by which an evidence proves, if there is one
abbrev pub axis_of : Option Evidence → Option Axis
axis_of None = None
axis_of (Some e) = Some e.axis

-- what a buffer holds for the share, or for the path, once an evidence is written, and as it was where there is none
abbrev pub share_over : Option Evidence → List ℕ → List ℕ
share_over None old = old
share_over (Some e) old = e.share

abbrev pub path_over : Option Evidence → List ℕ → List ℕ
path_over None old = old
path_over (Some e) old = e.path

-- what is answered to a question that may be refused
abbrev pub answer_to : Result (Unit {0}) Refused → Option Evidence → Result (Option Axis) Refused
answer_to (Ok t) v = Ok (axis_of v)
answer_to (Err e) v = Err e

-- what a store in order promises of a question. It means m; `answer`, the buffers `share'` and `path'`, the meaning m' and the rule of
-- order are those after.
pub record Shows (m m' : Meaning) (order : Type 0) (r c : ℕ) (share path : List ℕ) (answer : Result (Option Axis) Refused) (share' path' : List ℕ) : Type 0 where
  pub answers : answer ≡ answer_to (asked m.k m.s r c (length share) (length path)) (m.at r c)
  pub share_is : share' ≡ written (asked m.k m.s r c (length share) (length path)) (share_over (m.at r c) share) share
  pub path_is : path' ≡ written (asked m.k m.s r c (length share) (length path)) (path_over (m.at r c) path) path
  pub same : m' ≡ m
  pub kept : order

-- a question that is refused leaves the whole store as it was
abbrev pub Untouched : {S : Type 0} → Result (Unit {0}) Refused → S → S → Type 0
Untouched (Ok t) before after = Unit {0}
Untouched (Err e) before after = after ≡ before
