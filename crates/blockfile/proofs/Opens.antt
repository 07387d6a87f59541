-- From the records of a file to the block that it is.
use Rattle.std.proofs.Common.{◌≡◌, ℕ, ◌-◌, ◌<◌, ◌≤◌, List, [], length, drop, Ok, Err, Result, sym, refl, ap, ◌∙◌, subst, arith, length-drop}
use Rattle.std.proofs.lemmas.Bool.{lt-ltb, le-ltb, cond-true, cond-false}
use Rattle.octets.specs.Outcome.{Refused, plain, outcome}
use Rattle.header.specs.Fields.{Fields}
use Rattle.wire.specs.declared.due.Due.TheVariants as due
use Rattle.wire.specs.Reading.{reads_at}
use Rattle.blockfile.specs.declared.file.BlockFile.{BlockFile}
use Rattle.blockfile.specs.declared.index.Index.{Index}
use Rattle.blockfile.specs.declared.refusal.FileRefusal.{FileRefusal}
use Rattle.blockfile.specs.File.{HeadIs, RootsAre, roots_place, groups_place, Means, Opens}
use Rattle.blockfile.specs.Opening.{closed, groups_from, Says, Walks}
use Rattle.blockfile.specs.Refusals.{told}
use Rattle.blockfile.specs.Walk.{Block, Entry, as_block, behind_roots, behind_header, no_block, sofar, walk, file_limit, file_outcome}
use Rattle.blockfile.specs.declared.point.Point.TheVariants.{Between}

-- refused, a file is what it was
pub record Refuses (bs : List ℕ) (f : BlockFile) (r : Result (Unit {0}) FileRefusal) : Type 0 where
  pub answer : outcome told r ≡ closed (file_outcome bs)
  pub opened : Opens f (file_outcome bs) f

refuses : (bs : List ℕ) (f : BlockFile) (e : FileRefusal) → file_outcome bs ≡ Err (told e) → Refuses bs f (Err e)
refuses bs f e p = record { answer = ap closed (sym p); opened = subst (λ o. Opens f o f) (sym p) refl }

module _ (bs : List ℕ) (f : BlockFile) where
  pub too_long : file_limit < length bs → (e : FileRefusal) → told e ≡ plain 6 → Refuses bs f (Err e)
  unfolding file_outcome
  too_long l e t = refuses bs f e (cond-true _ _ _ (lt-ltb file_limit (length bs) l) ∙ ap Err (sym t))

  module _ (fits : length bs ≤ file_limit) where
    short : file_outcome bs ≡ behind_header (length bs) (reads_at no_block due.Header 0 bs)
    unfolding file_outcome
    short = cond-false _ _ _ (le-ltb file_limit (length bs) fits)

    pub bad_header : (e : FileRefusal) → reads_at no_block due.Header 0 bs ≡ Err (told e) → Refuses bs f (Err e)
    bad_header e p = refuses bs f e (short ∙ ap (behind_header (length bs)) p)

    module _ (h : Fields) (head : HeadIs bs h) where
      place : length bs - length (drop roots_place bs) ≡ roots_place
      place = let n = length-drop roots_place bs in let l = head.long in omega arith

      headed : file_outcome bs ≡ behind_roots h (length bs) (reads_at h due.Roots roots_place (drop roots_place bs))
      headed = short ∙ ap (behind_header (length bs)) head.reads ∙ ap (λ m. behind_roots h (length bs) (reads_at h due.Roots m (drop roots_place bs))) place

      pub bad_roots : (e : FileRefusal) → reads_at h due.Roots roots_place (drop roots_place bs) ≡ Err (told e) → Refuses bs f (Err e)
      bad_roots e p = refuses bs f e (headed ∙ ap (behind_roots h (length bs)) p)

      module _ (rs : List ℕ) (are : RootsAre h bs rs) where
        further : length bs - length (drop (groups_place h) bs) ≡ groups_place h
        further = let n = length-drop (groups_place h) bs in let l = are.long in omega arith

        pub rooted : file_outcome bs ≡ as_block h rs (groups_from h bs (groups_place h))
        rooted = headed ∙ ap (behind_roots h (length bs)) are.reads
            ∙ ap (λ m. as_block h rs (walk (length (drop (groups_place h) bs)) h (sofar Between []) m (drop (groups_place h) bs))) further

        pub bad_groups : (e : FileRefusal) (ix : Index) → Walks h bs (groups_place h) (Err e) ix → Refuses bs f (Err e)
        bad_groups e ix w = refuses bs f e (rooted ∙ failed (groups_from h bs (groups_place h)) w.answer)
          where
            failed : (g : Result (List Entry) Refused) → ◌≡◌ {A = Result (Unit {0}) Refused} (Err (told e)) (closed g) → as_block h rs g ≡ Err (told e)
            failed (Ok es) p = let z : ◌≡◌ {A = ℕ} 0 1 = cc in absurd (omega arith)
            failed (Err e') p = cc

        -- the shares of a file whose groups were walked over
        pub good_groups : (ix : Index) → Walks h bs (groups_place h) (Ok tt) ix → (es : List Entry) × (file_outcome bs ≡ Ok (record { head = h; roots = rs; shares = es })) × Says h bs es ix
        good_groups ix w = went (groups_from h bs (groups_place h)) refl w.answer
          where
            went : (g : Result (List Entry) Refused) → groups_from h bs (groups_place h) ≡ g → ◌≡◌ {A = Result (Unit {0}) Refused} (Ok tt) (closed g)
                → (es : List Entry) × (file_outcome bs ≡ Ok (record { head = h; roots = rs; shares = es })) × Says h bs es ix
            went (Ok es) e p = (es, rooted ∙ ap (as_block h rs) e, w.says es e)
            went (Err e') e p = let z : ◌≡◌ {A = ℕ} 0 1 = cc in absurd (omega arith)

pub opens_as : (before after : BlockFile) (b : Block) (o : Result Block Refused) → o ≡ Ok b → Means after b → Opens before o after
opens_as before after b o p m = subst (λ q. Opens before q after) (sym p) m
