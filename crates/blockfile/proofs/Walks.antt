-- The walk over a file, with the index in the place of the list of shares.
use Rattle.std.proofs.Common.{◌≡◌, ℕ, suc, ◌+◌, ◌-◌, ◌<◌, ◌≤◌, Bool, true, false, cond, not, ◌≢◌, eqb, ltb, List, [], ◌∷◌, length, get_or, drop, replicate, is_some, None, Ok, Err, Option, Result, sym, refl, ap, ◌∙◌, subst, inl, inr, arith, length-drop, drop-drop, Bor}
use lib.ListN.{length-replicate, get_or-replicate}
use Rattle.std.proofs.lemmas.List.{get_or_past}
use Rattle.std.proofs.lemmas.Bool.{cond-true, cond-false, cases_Bool, ltb-true, ltb-false, lt-ltb, eqb-false}
use Rattle.octets.specs.Outcome.{Refused, outcome}
use Rattle.erasure.specs.Limits.{ok_width}
use Rattle.header.specs.declared.cell.Axis.{Axis}
use Rattle.header.specs.declared.cell.Axis.TheVariants.{Row}
use Rattle.header.specs.Fields.{Fields, fields_of}
use Rattle.header.specs.declared.header.Header.{Header}
use Rattle.header.specs.Lines.{row_at, col_at}
use Rattle.header.specs.Sizes.{width, head_len, cell_number, has_cell}
use Rattle.evidence.specs.Evidence.{Evidence}
use Rattle.wire.specs.Refusals.{refused_at}
use Rattle.wire.specs.Values.{Rec, header, roots, group, share, end, claim, witness}
use Rattle.wire.specs.Reading.{reads_at, kind_in, body_for}
use Rattle.wire.proofs.Trips.{cut_at, behind_is}
use Rattle.wire.specs.declared.reader.Reader.{Reader}
use Rattle.blockfile.specs.declared.index.Index.{Index}
use Rattle.blockfile.specs.declared.walk.Walk.{Walk}
use Rattle.blockfile.specs.declared.point.Point.{Point}
use Rattle.blockfile.specs.declared.point.Point.TheVariants.{Between, Inside}
use Rattle.blockfile.specs.declared.refusal.FileRefusal.{FileRefusal}
use Rattle.blockfile.specs.Index.{indexed, evidence_by, marked, no_places}
use Rattle.blockfile.specs.Opening.{closed, Walks}
use Rattle.blockfile.specs.Refusals.{told}
use Rattle.blockfile.specs.Steps.{Held, held, LineLow, noting, go}
use Rattle.blockfile.specs.Walk.{Entry, Sofar, sofar, entry_at, shown_in, due_at, step, finish_by, stepped, turned, walk}
use Rattle.blockfile.proofs.Cells.{row_low, col_low}
use Rattle.blockfile.proofs.Kept.{Standing, seen_is, noted_more}
use Rattle.blockfile.proofs.Shares.{share_read, group_read}

-- what a step of the walk owes to a step of the index
abbrev Agrees : Fields → List ℕ → Point → List Entry → ℕ → Rec → Result Held Refused → Type 0
Agrees h bs pt es at x (Ok y) = (es' : List Entry) × (step (sofar pt es) at x ≡ Ok (sofar y.point es')) × Standing h bs es' y.index × LineLow h y.point
Agrees h bs pt es at x (Err e) = step (sofar pt es) at x ≡ Err e

module _ (h : Fields) (bs : List ℕ) (wide : ok_width h.k ≡ true) (at : ℕ) (rest : List ℕ) (some : 0 < at) (rest_is : rest ≡ drop at bs) (whole : at + length rest ≡ length bs) (behind : List ℕ) where
  noting_agrees : (x : Axis) (i p : ℕ) (s q : List ℕ) (es : List Entry) (ix : Index) → Standing h bs es ix → i < width h → reads_at h (due_at (Inside x i)) at rest ≡ Ok (share p s q, behind)
      → Agrees h bs (Inside x i) es at (share p s q) (noting (Inside x i) ix (cell_number h (row_at x i p) (col_at x i p)) at x)
  noting_agrees x i p s q es ix st line e =
      let parts = share_read h at rest p s q behind e in
      let seen = seen_is h bs es ix st.kept (row_at x i p) (col_at x i p) (row_low x i p (width h) line parts.place_low) (col_low x i p (width h) line parts.place_low) in
      let free : Bool = eqb (get_or ix.at (cell_number h (row_at x i p) (col_at x i p)) 0) 0 in
      elim (cases_Bool free) [
        | inl t ↦
            subst (Agrees h bs (Inside x i) es at (share p s q)) (sym (cond-true free (Ok (held (Inside x i) (marked ix (cell_number h (row_at x i p) (col_at x i p)) at x))) (Err (refused_at 12 at)) t)) (
              entry_at x i p s q ∷ es,
              cond-false (is_some (shown_in es (row_at x i p) (col_at x i p))) (Err (refused_at 12 at)) (Ok (sofar (Inside x i) (entry_at x i p s q ∷ es))) (seen ∙ ap not t),
              noted_more h bs es ix st wide x i p at s q rest line some rest_is parts whole,
              lt-ltb i (width h) line,
            )
        | inr f ↦
            subst (Agrees h bs (Inside x i) es at (share p s q)) (sym (cond-false free (Ok (held (Inside x i) (marked ix (cell_number h (row_at x i p) (col_at x i p)) at x))) (Err (refused_at 12 at)) f))
            (cond-true (is_some (shown_in es (row_at x i p) (col_at x i p))) (Err (refused_at 12 at)) (Ok (sofar (Inside x i) (entry_at x i p s q ∷ es))) (seen ∙ ap not f))
      ]

  agrees : (pt : Point) (x : Rec) (es : List Entry) (ix : Index) → Standing h bs es ix → LineLow h pt → reads_at h (due_at pt) at rest ≡ Ok (x, behind) → Agrees h bs pt es at x (go h pt ix at x)
  agrees Between (group a i) es ix st low e = (es, refl, st, lt-ltb i (width h) (group_read h at rest a i behind e))
  agrees Between (header g) es ix st low e = refl
  agrees Between (roots rs) es ix st low e = refl
  agrees Between (share p s q) es ix st low e = refl
  agrees Between end es ix st low e = refl
  agrees Between (claim c) es ix st low e = refl
  agrees Between (witness v) es ix st low e = refl
  agrees (Inside x i) (share p s q) es ix st low e = noting_agrees x i p s q es ix st (ltb-true i (width h) low) e
  agrees (Inside x i) end es ix st low e = (es, refl, st, refl)
  agrees (Inside x i) (group a j) es ix st low e = refl
  agrees (Inside x i) (header g) es ix st low e = refl
  agrees (Inside x i) (roots rs) es ix st low e = refl
  agrees (Inside x i) (claim c) es ix st low e = refl
  agrees (Inside x i) (witness v) es ix st low e = refl

one_turn : (n : ℕ) (h : Fields) (st : Sofar) (at : ℕ) (bs : List ℕ) → 0 < length bs → length bs ≤ suc n → walk (suc n) h st at bs ≡ turned (walk n h) st at (length bs) (reads_at h (due_at st.point) at bs)
unfolding walk
one_turn n h st at [] some le = absurd (omega arith)
one_turn n h st at (b ∷ bs) some le = refl

pub at_end : (n : ℕ) (h : Fields) (st : Sofar) (at : ℕ) (bs : List ℕ) → length bs ≡ 0 → walk n h st at bs ≡ finish_by st.point st.shares at
unfolding walk
at_end n h st at [] e = refl
at_end n h st at (b ∷ bs) e = absurd (omega arith)

-- the walk from the first group on
abbrev pub groups : Fields → List ℕ → ℕ → Result (List Entry) Refused
groups h bs start = walk (length (drop start bs)) h (sofar Between []) start (drop start bs)

-- the walk has come to a point and a place, with an index
pub record Walking (h : Fields) (bs : List ℕ) (start : ℕ) (pt : Point) (ix : Index) (at : ℕ) : Type 0 where
  pub shares : List Entry
  pub standing : Standing h bs shares ix
  pub low : LineLow h pt
  pub some : 0 < at
  pub inside : at ≤ length bs
  pub fuel : ℕ
  pub enough : length (drop at bs) ≤ fuel
  pub whole : groups h bs start ≡ walk fuel h (sofar pt shares) at (drop at bs)

module _ (h : Fields) (bs : List ℕ) (wide : ok_width h.k ≡ true) (start : ℕ) (pt : Point) (ix : Index) (at : ℕ) (w : Walking h bs start pt ix at) (rest : List ℕ) (rest_is : rest ≡ drop at bs) where
  long : at + length rest ≡ length bs
  long = let n = length-drop at bs in omega (arith, ap length rest_is, w.inside)

  turn : 0 < length rest → groups h bs start ≡ turned (walk (w.fuel - 1) h) (sofar pt w.shares) at (length rest) (reads_at h (due_at pt) at rest)
  turn some =
      let n : length rest ≤ w.fuel = omega (arith, ap length rest_is, w.enough) in
      let f : w.fuel ≡ suc (w.fuel - 1) = omega arith in
      w.whole ∙ ap (λ m. walk m h (sofar pt w.shares) at (drop at bs)) f ∙ ap (walk (suc (w.fuel - 1)) h (sofar pt w.shares) at) (sym rest_is)
      ∙ one_turn (w.fuel - 1) h (sofar pt w.shares) at rest some (omega arith)

  pub faulty : 0 < length rest → (e : Refused) → Err e ≡ reads_at h (due_at pt) at rest → Err e ≡ groups h bs start
  faulty some e p = sym (turn some ∙ ap (turned (walk (w.fuel - 1) h) (sofar pt w.shares) at (length rest)) (sym p))

  pub refuses : 0 < length rest → (x : Rec) (behind : List ℕ) → Ok (x, behind) ≡ reads_at h (due_at pt) at rest → (e : Refused) → Err e ≡ go h pt ix at x → Err e ≡ groups h bs start
  refuses some x behind p e g =
      let a = subst (Agrees h bs pt w.shares at x) (sym g) (agrees h bs wide at rest w.some rest_is long behind pt x w.shares ix w.standing w.low (sym p)) in
      sym (turn some ∙ ap (turned (walk (w.fuel - 1) h) (sofar pt w.shares) at (length rest)) (sym p)
      ∙ ap (stepped (λ next. walk (w.fuel - 1) h next (at + (length rest - length behind)) behind)) a)

  pub goes_on : 0 < length rest → (x : Rec) (behind : List ℕ) → Ok (x, behind) ≡ reads_at h (due_at pt) at rest → (y : Held) → Ok y ≡ go h pt ix at x
      → (next : ℕ) → next ≡ at + (length rest - length behind) → Walking h bs start y.point y.index next
  goes_on some x behind p y g next next-is =
      let a = subst (Agrees h bs pt w.shares at x) (sym g) (agrees h bs wide at rest w.some rest_is long behind pt x w.shares ix w.standing w.low (sym p)) in
      let c = cut_at h (due_at pt) at rest x behind (sym p) in
      let q = behind_is h (due_at pt) rest x behind c in
      let m : ℕ = head_len + body_for h (kind_in rest) in
      let lb : length behind + m ≡ length rest = omega (arith, ap length q.0, length-drop m rest, q.1) in
      let nm : next ≡ at + m = omega (arith, next-is, lb, q.1) in
      let behind-at : behind ≡ drop next bs = q.0 ∙ ap (drop m) rest_is ∙ drop-drop m at bs ∙ ap (λ j. drop j bs) (sym nm) in
      record {
        shares = a.0;
        standing = a.2;
        low = a.3;
        some = omega (arith, w.some, nm);
        inside = omega (arith, long, nm, q.1);
        fuel = w.fuel - 1;
        enough = omega (arith, sym (ap length behind-at), lb, w.enough, ap length rest_is);
        whole = turn some ∙ ap (turned (walk (w.fuel - 1) h) (sofar pt w.shares) at (length rest)) (sym p)
            ∙ ap (stepped (λ to. walk (w.fuel - 1) h to (at + (length rest - length behind)) behind)) a.1
            ∙ ap (λ j. walk (w.fuel - 1) h (sofar y.point a.0) j behind) (sym next-is)
            ∙ ap (walk (w.fuel - 1) h (sofar y.point a.0) next) behind-at;
      }

  pub ends : length rest ≡ 0 → groups h bs start ≡ finish_by pt w.shares at
  ends none = w.whole ∙ at_end w.fuel h (sofar pt w.shares) at (drop at bs) (ap length (sym rest_is) ∙ none)

nothing_there : (n i : ℕ) → ◌≡◌ {A = ℕ} (get_or (replicate n 0) i 0) 0
nothing_there n i = elim (cases_Bool (ltb i n)) [
  | inl t ↦ get_or-replicate {A = ℕ} n i 0 0 (ltb-true i n t)
  | inr f ↦ let m = length-replicate {A = ℕ} n 0 in let q = ltb-false i n f in let le : length (replicate {A = ℕ} n 0) ≤ i = omega arith in get_or_past (replicate {A = ℕ} n 0) i 0 le
]

pub none_within : (n m : ℕ) (ix : Index) → ix ≡ no_places → (i : ℕ) → i < 4096 → (get_or ix.at i 0 ≢ 0) → get_or ix.at i 0 + m ≤ n
none_within n m ix e i l some' = absurd (some' (ap (λ p. get_or p i 0) (ap (λ j. j.at) e) ∙ nothing_there 4096 i))

-- an index that names no record says nothing of every cell
pub empty_standing : (h : Fields) (bs : List ℕ) (ix : Index) → ix ≡ no_places → Standing h bs [] ix
unfolding indexed shown_in
empty_standing h bs ix e = record {
  kept = λ r c. ap (λ l. cond (has_cell h r c) (evidence_by h bs (get_or l (cell_number h r c) 0) (get_or ix.axis (cell_number h r c) Row)) None) (ap (λ i. i.at) e)
      ∙ ap (λ p. cond (has_cell h r c) (evidence_by h bs p (get_or ix.axis (cell_number h r c) Row)) None) (nothing_there 4096 (cell_number h r c))
      ∙ same_both (has_cell h r c);
  within = none_within _ _ ix e;
  at_long = ap (λ i. length i.at) e ∙ length-replicate {A = ℕ} 4096 0;
  axis_long = ap (λ i. length i.axis) e ∙ length-replicate {A = Axis} 4096 Row;
}
  where
    same_both : (b : Bool) → ◌≡◌ {A = Option Evidence} (cond b None None) None
    same_both true = refl
    same_both false = refl

pub starts : (h : Fields) (bs : List ℕ) (start : ℕ) (ix : Index) → 0 < start → start ≤ length bs → ix ≡ no_places → Walking h bs start Between ix start
starts h bs start ix some le e = record {
  shares = [];
  standing = empty_standing h bs ix e;
  low = refl;
  some = some;
  inside = le;
  fuel = length (drop start bs);
  enough = omega arith;
  whole = refl;
}

-- what a walk leaves, by how it ends
never : {A : Type 0} (es : List Entry) (e : Refused) → ◌≡◌ {A = Result (List Entry) Refused} (Err e) (Ok es) → A
never es e p = let z : ◌≡◌ {A = ℕ} 0 1 = cc in absurd (omega arith)

pub refused_walk : (h : Fields) (bs : List ℕ) (start : ℕ) (r : FileRefusal) (ix : Index) → Err (told r) ≡ groups h bs start → Walks h bs start (Err r) ix
refused_walk h bs start r ix p = record { answer = ap closed p; says = λ es q. never es (told r) (p ∙ q) }

ends_at : (h : Fields) (bs : List ℕ) (es : List Entry) (ix : Index) (start : ℕ) (pt : Point) (at : ℕ) → Standing h bs es ix → groups h bs start ≡ finish_by pt es at
    → (r : Result (Unit {0}) FileRefusal) → outcome told r ≡ closed (finish_by pt [] at) → Walks h bs start r ix
ends_at h bs es ix start Between at st g r p = record {
  answer = p ∙ ap closed (sym g);
  says = λ es' q. let same : es ≡ es' = ok_same (sym g ∙ q) in record { cells = λ r c. st.kept r c ∙ ap (λ l. shown_in l r c) same; within = st.within };
}
  where
    ok_same : {es' : List Entry} → ◌≡◌ {A = Result (List Entry) Refused} (Ok es) (Ok es') → es ≡ es'
    ok_same {es'} e = cc
ends_at h bs es ix start (Inside x i) at st g r p = record { answer = p ∙ ap closed (sym g); says = λ es' q. never es' (refused_at 10 at) (sym g ∙ q) }

pub ended_walk : (h : Fields) (bs : List ℕ) (wide : ok_width h.k ≡ true) (start : ℕ) (pt : Point) (ix : Index) (at : ℕ) → Walking h bs start pt ix at → length bs ≤ at
    → (r : Result (Unit {0}) FileRefusal) → outcome told r ≡ closed (finish_by pt [] at) → Walks h bs start r ix
ended_walk h bs wide start pt ix at w le r p =
    let none : length (drop at bs) ≡ 0 = length-drop at bs ∙ omega arith in
    ends_at h bs w.shares ix start pt at w.standing (ends h bs wide start pt ix at w (drop at bs) refl none) r p

-- a walk and its reader, which began as r0 and in the block of h0
pub record Going (h0 : Header) (r0 : Reader) (w : Walk) (r : Reader) : Type 0 where
  pub header : w.header ≡ h0
  pub bytes : r.bytes ≡ r0.bytes
  pub walking : Walking (fields_of w.header) r.bytes.now r0.at w.point w.index r.at

pub same_walk : {h h' : Header} {bs bs' : Bor (List ℕ)} {n n' : ℕ} (o : Result (Unit {0}) FileRefusal) (ix : Index) → h ≡ h' → bs ≡ bs' → n ≡ n'
    → Walks (fields_of h) bs.now n o ix → Walks (fields_of h') bs'.now n' o ix
same_walk {h} {h'} {bs} {bs'} {n} {n'} o ix eh eb en x =
    subst (λ i. Walks (fields_of h') bs'.now i o ix) en (subst (λ b. Walks (fields_of h') b.now n o ix) eb (subst (λ f. Walks (fields_of f) bs.now n o ix) eh x))

-- bytes are left where a reader is not at the end
pub some_left : (n : ℕ) → false ≡ eqb n 0 → 0 < n
some_left n e = let m = eqb-false n 0 (sym e) in omega arith
