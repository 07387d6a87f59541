-- The first two records of a file.
use Rattle.std.proofs.Common.{◌≡◌, ℕ, ◌+◌, ◌*◌, ◌≤◌, Bool, true, false, cond, not, ◌&&◌, eqb, List, length, get_or, take, drop, Ok, Err, Result, sym, refl, ap, ◌∙◌, arith, length-drop, length-take-le, drop-drop, Bor}
use Rattle.std.proofs.lemmas.Bool.{eqb-true}
use Rattle.std.proofs.lemmas.Bool.Decides.{nat_tests}
use Rattle.octets.specs.Outcome.{Refused, plain, outcome_by}
use Rattle.hash.specs.Digests.{digest_len}
use Rattle.erasure.specs.Limits.{ok_width, ok_size}
use Rattle.header.specs.Fields.{Fields, header_outcome}
use Rattle.header.specs.Sizes.{head_len, header_body_len, roots_len}
use Rattle.wire.specs.declared.due.Due.TheVariants as due
use Rattle.wire.specs.declared.record.Record.{Record}
use Rattle.wire.specs.declared.record.Record.TheVariants.{Header, Roots, Group, Share, GroupEnd, Claim, Witness}
use Rattle.wire.specs.Values.{Rec, header, roots}
use Rattle.wire.specs.Parts.{value_of}
use Rattle.wire.specs.Reading.{is_due, kind_in, body_len, body_for, record_in, in_range, reads_at}
use Rattle.wire.specs.Readers.{rest_of}
use Rattle.wire.specs.Writing.{first_of}
use Rattle.wire.specs.declared.reader.Reader.{Reader}
use Rattle.wire.proofs.Trips.{cut_at, behind_is}
use Rattle.blockfile.specs.File.{HeadIs, RootsAre, roots_place, groups_place}
use Rattle.blockfile.specs.Walk.{no_block}

-- what a reader at the front of a file has read, and how far it has come
pub first_read : (f : Fields) (before after_it : Reader) (x : Rec) → f ≡ no_block → before.at ≡ 0 → after_it.bytes ≡ before.bytes
    → Ok (x, rest_of after_it) ≡ reads_at f due.Header before.at (rest_of before) → reads_at no_block due.Header 0 before.bytes.now ≡ Ok (x, drop after_it.at before.bytes.now)
first_read f before after_it x ef z same p =
    sym (ap (λ b. Ok (x, drop after_it.at b.now)) (sym same) ∙ p ∙ ap (λ g. reads_at g due.Header before.at (rest_of before)) ef ∙ ap (λ n. reads_at no_block due.Header n (drop n before.bytes.now)) z)

pub next_read : (h : Fields) (before after_it : Reader) (x : Rec) → before.at ≡ roots_place → after_it.bytes ≡ before.bytes
    → Ok (x, rest_of after_it) ≡ reads_at h due.Roots before.at (rest_of before) → reads_at h due.Roots roots_place (drop roots_place before.bytes.now) ≡ Ok (x, drop after_it.at before.bytes.now)
next_read h before after_it x z same p =
    sym (ap (λ b. Ok (x, drop after_it.at b.now)) (sym same) ∙ p ∙ ap (λ n. reads_at h due.Roots n (drop n before.bytes.now)) z)

pub come_to : (bs : List ℕ) (n m : ℕ) (x y : Rec) → n ≤ length bs → m ≤ length bs → ◌≡◌ {A = Result (Rec × List ℕ) Refused} (Ok (x, drop n bs)) (Ok (y, drop m bs)) → n ≡ m
come_to bs n m x y a b e =
    let q : ◌≡◌ {A = Rec × List ℕ} (x, drop n bs) (y, drop m bs) = cc in
    omega (arith, ap (λ t. length t.1) q, length-drop n bs, length-drop m bs)

-- where a header is due no other record is read, and where roots are due neither
pub header_due : (h : Fields) (at : ℕ) (bs : List ℕ) (x : Rec) (rest : List ℕ) → reads_at h due.Header at bs ≡ Ok (x, rest) → (g : Fields) × (x ≡ header g)
unfolding is_due record_in
header_due h at bs x rest p =
    let c = cut_at h due.Header at bs x rest p in
    let k : kind_in bs ≡ 1 = eqb-true _ 1 c.isdue in
    let b : List ℕ = take (body_len bs) (drop head_len bs) in
    (record { k = get_or b 0 0 + get_or b 1 0 * 256; s = get_or b 2 0 + get_or b 3 0 * 256; hash_kind = get_or b 4 0; code_kind = get_or b 5 0; data_root = drop 6 b }, sym (ap (λ m. record_in h m b) (sym k) ∙ c.says))

pub roots_due : (h : Fields) (at : ℕ) (bs : List ℕ) (x : Rec) (rest : List ℕ) → reads_at h due.Roots at bs ≡ Ok (x, rest) → (rs : List ℕ) × (x ≡ roots rs)
unfolding is_due record_in
roots_due h at bs x rest p =
    let c = cut_at h due.Roots at bs x rest p in
    let k : kind_in bs ≡ 2 = eqb-true _ 2 c.isdue in
    let b : List ℕ = take (body_len bs) (drop head_len bs) in
    (b, sym (ap (λ m. record_in h m b) (sym k) ∙ c.says))

pub not_header : (x : Record) (g : Fields) → value_of x ≡ header g → ((k s hk ck : ℕ) (r : Bor (List ℕ)) → x ≡ Header k s hk ck r → ⊥) → ⊥
not_header (Header k s hk ck r) g e n = n k s hk ck r refl
not_header (Roots bs) g e n = let z : ◌≡◌ {A = ℕ} 0 1 = cc in omega arith
not_header (Group a i) g e n = let z : ◌≡◌ {A = ℕ} 0 1 = cc in omega arith
not_header (Share p s q) g e n = let z : ◌≡◌ {A = ℕ} 0 1 = cc in omega arith
not_header GroupEnd g e n = let z : ◌≡◌ {A = ℕ} 0 1 = cc in omega arith
not_header (Claim a i r q) g e n = let z : ◌≡◌ {A = ℕ} 0 1 = cc in omega arith
not_header (Witness p a s q) g e n = let z : ◌≡◌ {A = ℕ} 0 1 = cc in omega arith

pub not_roots : (x : Record) (rs : List ℕ) → value_of x ≡ roots rs → ((r : Bor (List ℕ)) → x ≡ Roots r → ⊥) → ⊥
not_roots (Roots r) rs e n = n r refl
not_roots (Header k s hk ck r) rs e n = let z : ◌≡◌ {A = ℕ} 0 1 = cc in omega arith
not_roots (Group a i) rs e n = let z : ◌≡◌ {A = ℕ} 0 1 = cc in omega arith
not_roots (Share p s q) rs e n = let z : ◌≡◌ {A = ℕ} 0 1 = cc in omega arith
not_roots GroupEnd rs e n = let z : ◌≡◌ {A = ℕ} 0 1 = cc in omega arith
not_roots (Claim a i r q) rs e n = let z : ◌≡◌ {A = ℕ} 0 1 = cc in omega arith
not_roots (Witness p a s q) rs e n = let z : ◌≡◌ {A = ℕ} 0 1 = cc in omega arith

pub not_refused : {A E : Type 0} (view : A → Fields) (told : E → Refused) (r : Result A E) (g : Fields) → outcome_by view told r ≡ Ok g → ((x : A) → r ≡ Ok x → ⊥) → ⊥
not_refused view told (Ok x) g e n = n x refl
not_refused view told (Err d) g e n = let z : ◌≡◌ {A = ℕ} 0 1 = cc in omega arith

-- the header g that was read
pub record Head (bs : List ℕ) (g : Fields) : Type 0 where
  pub is : HeadIs bs g
  pub makes : header_outcome g ≡ Ok g

makes_if : (a b c : Bool) (g : Fields) → a ≡ true → b ≡ true → c ≡ true → ◌≡◌ {A = Result Fields Refused} (cond (not a) (Err (plain 1)) (cond (not b) (Err (plain 2)) (cond (not c) (Err (plain 3)) (Ok g)))) (Ok g)
makes_if true true true g p q r = refl
makes_if false b c g p q r = absurd (grind (arith, nat_tests))
makes_if true false c g p q r = absurd (grind (arith, nat_tests))
makes_if true true false g p q r = absurd (grind (arith, nat_tests))

ranges : (g : Fields) → in_range no_block (header g) ≡ true → (ok_width g.k ≡ true) × (ok_size g.s ≡ true)
unfolding in_range
ranges g e = both (ok_width g.k) (ok_size g.s) e
  where
    both : (p q : Bool) → (p && q) ≡ true → (p ≡ true) × (q ≡ true)
    both true true e = (refl, refl)
    both true false e = absurd (grind (arith, nat_tests))
    both false q e = absurd (grind (arith, nat_tests))

pub header_read : (bs : List ℕ) (x : Rec) (rest : List ℕ) (g : Fields) → reads_at no_block due.Header 0 bs ≡ Ok (x, rest) → x ≡ header g → Head bs g
unfolding is_due body_for record_in
header_read bs x rest g p is =
    let c = cut_at no_block due.Header 0 bs x rest p in
    let k : kind_in bs ≡ 1 = eqb-true _ 1 c.isdue in
    let f : body_for no_block (kind_in bs) ≡ header_body_len = ap (body_for no_block) k in
    let q = behind_is no_block due.Header bs x rest c in
    let b : List ℕ = take (body_len bs) (drop head_len bs) in
    let long : length b ≡ header_body_len = length-take-le (body_len bs) (drop head_len bs) c.held ∙ c.body ∙ f in
    let says : record_in no_block 1 b ≡ header g = ap (λ m. record_in no_block m b) (sym k) ∙ c.says ∙ is in
    let root_is : drop 6 b ≡ g.data_root = ap first_of says in
    let root_long : length g.data_root ≡ digest_len = ap length (sym root_is) ∙ length-drop 6 b ∙ omega arith in
    let r = ranges g (ap (in_range no_block) (sym is) ∙ c.range) in
    let rest_is : rest ≡ drop roots_place bs = q.0 ∙ ap (λ m. drop (head_len + m) bs) f in
    record {
      is = record { reads = p ∙ ap (λ y. Ok (y, rest)) is ∙ ap (λ y. Ok (header g, y)) rest_is; long = omega (arith, q.1, f) };
      makes = makes_if (ok_width g.k) (ok_size g.s) (eqb (length g.data_root) digest_len) g r.0 r.1 (ap (λ n. eqb n digest_len) root_long);
    }

pub roots_read : (h : Fields) (bs : List ℕ) (x : Rec) (rest rs : List ℕ) → roots_place ≤ length bs → reads_at h due.Roots roots_place (drop roots_place bs) ≡ Ok (x, rest) → x ≡ roots rs → RootsAre h bs rs
unfolding is_due body_for
roots_read h bs x rest rs le p is =
    let c = cut_at h due.Roots roots_place (drop roots_place bs) x rest p in
    let k : kind_in (drop roots_place bs) ≡ 2 = eqb-true _ 2 c.isdue in
    let f : body_for h (kind_in (drop roots_place bs)) ≡ roots_len h = ap (body_for h) k in
    let q = behind_is h due.Roots (drop roots_place bs) x rest c in
    let rest_is : rest ≡ drop (groups_place h) bs = q.0 ∙ ap (λ m. drop (head_len + m) (drop roots_place bs)) f ∙ drop-drop (head_len + roots_len h) roots_place bs in
    record {
      reads = p ∙ ap (λ y. Ok (y, rest)) is ∙ ap (λ y. Ok (roots rs, y)) rest_is;
      long = let n = length-drop roots_place bs in omega (arith, q.1, f);
    }
