-- Reading and writing undo each other.
use Rattle.std.proofs.Common.{◌≡◌, ℕ, ◌+◌, ◌-◌, ◌^◌, ◌<◌, ◌≤◌, Bool, true, false, cond, not, ◌&&◌, ◌||◌, eqb, ltb, List, [], ◌∷◌, ◌++◌, length, take, drop, Ok, Err, Result, sym, refl, ap, ◌∙◌, subst, inl, inr, append_assoc, append-nil, arith, length-append, length-drop, take-append-drop, length-take-le, drop-drop}
use Rattle.std.specs.List.{AllByRecursion as All}
use Rattle.std.proofs.ByRecursion.{All-take, All-drop}
use Rattle.std.proofs.lemmas.List.{nil_from_length, take_at, drop_at}
use Rattle.std.proofs.lemmas.Bool.{or_cases, eqb-true, ltb-false}
use Rattle.std.proofs.lemmas.Bool.Decides.{nat_tests}
use Rattle.octets.specs.Outcome.{Refused, plain}
use Rattle.erasure.proofs.Bounds.{width_most}
use Rattle.header.specs.Fields.{Fields}
use Rattle.erasure.specs.Limits.{ok_width, ok_size}
use Rattle.header.specs.Sizes.{head_len, path_len, data_path_len, roots_len, share_body_len, claim_body_len, witness_body_len}
use Rattle.header.proofs.Measures.{Allowed}
use Rattle.wire.specs.declared.due.Due.{Due}
use Rattle.wire.specs.Refusals.{refused_at}
use Rattle.wire.specs.Values.{Rec, header, roots, group, share, end, claim, witness}
use Rattle.wire.specs.Reading.{body_len, kind_in, is_known, is_due, body_for, record_in, header_in, group_in, share_in, claim_in, witness_in, in_range, admitted, ranged, after_head, reads, placed, reads_at}
use Rattle.wire.specs.Writing.{head_of, framed, kind_of, body_of, bytes_of, parts_fit, WritesBack}
use Rattle.wire.proofs.Heads.{two_back, four_back, low, high, head_of_lem}
use Rattle.wire.proofs.Lengths.{body_short}

-- ---- what is written is read

framed_reads : (h : Fields) (due : Due) (kind : ℕ) (body tail : List ℕ) → length body < 2 ^ 32 → kind < 65536
    → reads h due (framed kind body ++ tail) ≡ after_head (admitted h due kind (length body)) (ranged h (record_in h kind body) tail)
unfolding reads
framed_reads h due kind body tail n k =
    let e1 = four_back (length body) n in
    let e2 = two_back kind k in
    let e3 = take_at body tail (length body) refl in
    let e4 = drop_at body tail (length body) refl in
    let e5 = length-append body tail in
    grind (arith, nat_tests)

-- a record says what its body says, which has the length of its kind
pub record Sound (h : Fields) (r : Rec) : Type 0 where
  pub known : is_known (kind_of r) ≡ true
  pub small : kind_of r < 65536
  pub long : length (body_of r) ≡ body_for h (kind_of r)
  pub says : record_in h (kind_of r) (body_of r) ≡ r

pub sound : (h : Fields) (r : Rec) → Allowed h → in_range h r ≡ true → parts_fit h r ≡ true → Sound h r
unfolding is_known body_for record_in in_range parts_fit ok_width ok_size
sound h (header g) a i p =
    let kk : g.k < 65536 = grind (arith, nat_tests) in
    let ss : g.s < 65536 = grind (arith, nat_tests) in
    let e1 = two_back g.k kk in
    let e2 = two_back g.s ss in
    let e3 = append-nil g.data_root in
    let n : length g.data_root ≡ 32 = eqb-true _ 32 p in
    record { known = refl; small = omega arith; long = rw e3 (omega arith); says = rw (e1, e2, e3) refl }
sound h (roots bs) a i p =
    let e3 = append-nil bs in
    let n = eqb-true (length bs) _ p in
    record { known = refl; small = omega arith; long = rw e3 n; says = rw e3 refl }
sound h (group x j) a i p =
    let w = width_most h.k a.wide in
    let jj : j < 65536 = grind (arith, nat_tests) in
    let e1 = two_back j jj in
    record { known = refl; small = omega arith; long = refl; says = rw e1 refl }
sound h (share q s t) a i p =
    let w = width_most h.k a.wide in
    let qq : q < 65536 = grind (arith, nat_tests) in
    let e1 = two_back q qq in
    let n1 : length s ≡ h.s = grind (arith, nat_tests) in
    let n2 : length t ≡ path_len h = grind (arith, nat_tests) in
    let e2 = take_at s t h.s n1 in
    let e3 = drop_at s t h.s n1 in
    let e4 = length-append s t in
    record { known = refl; small = omega arith; long = omega arith; says = rw (e1, e2, e3) refl }
sound h end a i p = record { known = refl; small = omega arith; long = refl; says = refl }
sound h (claim c) a i p =
    let w = width_most h.k a.wide in
    let jj : c.index < 65536 = grind (arith, nat_tests) in
    let e1 = two_back c.index jj in
    let n1 : length c.root ≡ 32 = grind (arith, nat_tests) in
    let n2 : length c.path ≡ data_path_len h = grind (arith, nat_tests) in
    let e2 = take_at c.root c.path 32 n1 in
    let e3 = drop_at c.root c.path 32 n1 in
    let e4 = length-append c.root c.path in
    record { known = refl; small = omega arith; long = omega arith; says = rw (e1, e2, e3) refl }
sound h (witness v) a i p =
    let w = width_most h.k a.wide in
    let qq : v.place < 65536 = grind (arith, nat_tests) in
    let e1 = two_back v.place qq in
    let n1 : length v.share ≡ h.s = grind (arith, nat_tests) in
    let n2 : length v.path ≡ path_len h = grind (arith, nat_tests) in
    let e2 = take_at v.share v.path h.s n1 in
    let e3 = drop_at v.share v.path h.s n1 in
    let e4 = length-append v.share v.path in
    record { known = refl; small = omega arith; long = omega arith; says = rw (e1, e2, e3) refl }

pub written_reads : (h : Fields) (due : Due) (r : Rec) (tail : List ℕ) → Allowed h → in_range h r ≡ true → parts_fit h r ≡ true → is_due due (kind_of r) ≡ true
    → reads h due (bytes_of r ++ tail) ≡ Ok (r, tail)
unfolding bytes_of
written_reads h due r tail a i p d =
    let s = sound h r a i p in
    let n = body_short h a (kind_of r) in
    let b : length (body_of r) < 2 ^ 32 = omega (arith, s.long) in
    let e = framed_reads h due (kind_of r) (body_of r) tail b s.small in
    let ad : admitted h due (kind_of r) (length (body_of r)) ≡ Ok tt = rw (s.known, d) (rw s.long (grind (arith, nat_tests))) in
    let ra : ranged h (record_in h (kind_of r) (body_of r)) tail ≡ Ok (r, tail) = rw s.says (rw i refl) in
    e ∙ ap (λ x. after_head x (ranged h (record_in h (kind_of r) (body_of r)) tail)) ad ∙ ra

-- ---- what is read is written

-- what a reading found
pub record Cut (h : Fields) (due : Due) (bs : List ℕ) (r : Rec) (tail : List ℕ) : Type 0 where
  pub long : head_len ≤ length bs
  pub held : body_len bs ≤ length (drop head_len bs)
  pub known : is_known (kind_in bs) ≡ true
  pub isdue : is_due due (kind_in bs) ≡ true
  pub body : body_len bs ≡ body_for h (kind_in bs)
  pub range : in_range h r ≡ true
  pub says : record_in h (kind_in bs) (take (body_len bs) (drop head_len bs)) ≡ r
  pub behind : drop (body_len bs) (drop head_len bs) ≡ tail

never : {A : Type 0} (r : Rec × List ℕ) (n : ℕ) → ◌≡◌ {A = Result (Rec × List ℕ) Refused} (Err (plain n)) (Ok r) → A
never r n p = let z : ◌≡◌ {A = ℕ} 0 1 = cc in absurd (omega arith)

cut_by : (a b kn du le ra : Bool) (x : Rec) (rest : List ℕ) (r : Rec) (tail : List ℕ)
    → ◌≡◌ {A = Result (Rec × List ℕ) Refused} (cond a (Err (plain 7)) (cond b (Err (plain 7)) (after_head (cond (not kn) (Err (plain 8)) (cond (not du) (Err (plain 10)) (cond (not le) (Err (plain 9)) (Ok tt)))) (cond ra (Ok (x, rest)) (Err (plain 11)))))) (Ok (r, tail))
    → (a ≡ false) × (b ≡ false) × (kn ≡ true) × (du ≡ true) × (le ≡ true) × (ra ≡ true) × (x ≡ r) × (rest ≡ tail)
cut_by true b kn du le ra x rest r tail p = never (r, tail) 7 p
cut_by false true kn du le ra x rest r tail p = never (r, tail) 7 p
cut_by false false false du le ra x rest r tail p = never (r, tail) 8 p
cut_by false false true false le ra x rest r tail p = never (r, tail) 10 p
cut_by false false true true false ra x rest r tail p = never (r, tail) 9 p
cut_by false false true true true false x rest r tail p = never (r, tail) 11 p
cut_by false false true true true true x rest r tail p =
    let q : ◌≡◌ {A = Rec × List ℕ} (x, rest) (r, tail) = cc in
    (refl, refl, refl, refl, refl, refl, ap (λ t. t.0) q, ap (λ t. t.1) q)

pub cut_of : (h : Fields) (due : Due) (bs : List ℕ) (r : Rec) (tail : List ℕ) → reads h due bs ≡ Ok (r, tail) → Cut h due bs r tail
unfolding reads
cut_of h due bs r tail p =
    let q = cut_by (ltb (length bs) head_len) (ltb (length (drop head_len bs)) (body_len bs)) (is_known (kind_in bs)) (is_due due (kind_in bs)) (eqb (body_len bs) (body_for h (kind_in bs)))
    (in_range h (record_in h (kind_in bs) (take (body_len bs) (drop head_len bs)))) (record_in h (kind_in bs) (take (body_len bs) (drop head_len bs))) (drop (body_len bs) (drop head_len bs)) r tail p in
    record {
      long = ltb-false (length bs) head_len q.0;
      held = ltb-false (length (drop head_len bs)) (body_len bs) q.1;
      known = q.2;
      isdue = q.3;
      body = eqb-true _ _ q.4;
      range = ap (in_range h) (sym q.6) ∙ q.5;
      says = q.6;
      behind = q.7;
    }

-- r is written as this kind and body, and its parts fit
record Like (h : Fields) (r : Rec) (kind : ℕ) (body : List ℕ) : Type 0 where
  pub kind_is : kind_of r ≡ kind
  pub body_is : body_of r ≡ body
  pub fits : parts_fit h r ≡ true

like_header : (h : Fields) (body : List ℕ) → All (λ b. b < 256) body → length body ≡ 38 → Like h (header_in body) 1 body
unfolding parts_fit
like_header h [] q n = absurd (omega arith)
like_header h (a ∷ []) q n = absurd (omega arith)
like_header h (a ∷ b ∷ []) q n = absurd (omega arith)
like_header h (a ∷ b ∷ c ∷ []) q n = absurd (omega arith)
like_header h (a ∷ b ∷ c ∷ d ∷ []) q n = absurd (omega arith)
like_header h (a ∷ b ∷ c ∷ d ∷ e ∷ []) q n = absurd (omega arith)
like_header h (a ∷ b ∷ c ∷ d ∷ e ∷ f ∷ rest) q n =
    let la = low a b q.0 in
    let ha = high a b q.0 q.1.0 in
    let lc = low c d q.1.1.0 in
    let hc = high c d q.1.1.0 q.1.1.1.0 in
    let nil = append-nil rest in
    let m : length rest ≡ 32 = omega arith in
    record { kind_is = refl; body_is = cc; fits = rw m refl }

like_group : (h : Fields) (body : List ℕ) → All (λ b. b < 256) body → length body ≡ 3 → Like h (group_in body) 3 body
unfolding parts_fit
like_group h [] q n = absurd (omega arith)
like_group h (a ∷ []) q n = absurd (omega arith)
like_group h (a ∷ b ∷ []) q n = absurd (omega arith)
like_group h (a ∷ b ∷ c ∷ []) q n =
    let lb = low b c q.1.0 in
    let hb = high b c q.1.0 q.1.1.0 in
    record { kind_is = refl; body_is = cc; fits = refl }
like_group h (a ∷ b ∷ c ∷ d ∷ rest) q n = absurd (omega arith)

like_share : (h : Fields) (body : List ℕ) → All (λ b. b < 256) body → length body ≡ share_body_len h → Like h (share_in h body) 4 body
unfolding parts_fit
like_share h [] q n = absurd (omega arith)
like_share h (a ∷ []) q n = absurd (omega arith)
like_share h (a ∷ b ∷ rest) q n =
    let la = low a b q.0 in
    let ha = high a b q.0 q.1.0 in
    let m = take-append-drop h.s rest in
    let m1 = length-take-le h.s rest (omega arith) in
    let m2 : length (drop h.s rest) ≡ path_len h = simp length-drop (omega arith) in
    record { kind_is = refl; body_is = cc; fits = rw (m1, m2) (grind (arith, nat_tests)) }

like_claim : (h : Fields) (body : List ℕ) → All (λ b. b < 256) body → length body ≡ claim_body_len h → Like h (claim_in body) 16 body
unfolding parts_fit
like_claim h [] q n = absurd (omega arith)
like_claim h (a ∷ []) q n = absurd (omega arith)
like_claim h (a ∷ b ∷ []) q n = absurd (omega arith)
like_claim h (a ∷ b ∷ c ∷ rest) q n =
    let lb = low b c q.1.0 in
    let hb = high b c q.1.0 q.1.1.0 in
    let m = take-append-drop 32 rest in
    let m1 = length-take-le 32 rest (omega arith) in
    let m2 : length (drop 32 rest) ≡ data_path_len h = simp length-drop (omega arith) in
    record { kind_is = refl; body_is = cc; fits = rw (m1, m2) (grind (arith, nat_tests)) }

like_witness : (h : Fields) (body : List ℕ) → All (λ b. b < 256) body → length body ≡ witness_body_len h → Like h (witness_in h body) 17 body
unfolding parts_fit
like_witness h [] q n = absurd (omega arith)
like_witness h (a ∷ []) q n = absurd (omega arith)
like_witness h (a ∷ b ∷ []) q n = absurd (omega arith)
like_witness h (a ∷ b ∷ c ∷ rest) q n =
    let la = low a b q.0 in
    let ha = high a b q.0 q.1.0 in
    let m = take-append-drop h.s rest in
    let m1 = length-take-le h.s rest (omega arith) in
    let m2 : length (drop h.s rest) ≡ path_len h = simp length-drop (omega arith) in
    record { kind_is = refl; body_is = cc; fits = rw (m1, m2) (grind (arith, nat_tests)) }

like_of : (h : Fields) (kind : ℕ) (body : List ℕ) → All (λ b. b < 256) body → is_known kind ≡ true → length body ≡ body_for h kind → Like h (record_in h kind body) kind body
unfolding is_known body_for record_in parts_fit
like_of h kind body q kn n =
    let P : ℕ → Type 0 = λ k. length body ≡ body_for h k → Like h (record_in h k body) k body in
    let here = kind_cases kind kn P (like_header h body q)
    (λ n. let m : length body ≡ roots_len h = n in record { kind_is = refl; body_is = append-nil body; fits = rw m (grind (arith, nat_tests)) })
    (like_group h body q) (like_share h body q)
    (λ n. let m : body ≡ [] = nil_from_length body n in record { kind_is = refl; body_is = sym m; fits = refl })
    (like_claim h body q) (like_witness h body q) in
    here n
  where
    kind_cases : (kind : ℕ) → is_known kind ≡ true → (P : ℕ → Type 0) → P 1 → P 2 → P 3 → P 4 → P 5 → P 16 → P 17 → P kind
    kind_cases kind w P a b c d e f g =
        one 1 a (λ w. one 2 b (λ w. one 3 c (λ w. one 4 d (λ w. one 5 e (λ w. one 16 f (λ w. subst P (sym (eqb-true kind 17 w)) g) w) w) w) w) w) w
      where
        one : (n : ℕ) {r : Bool} → P n → (r ≡ true → P kind) → (eqb kind n || r) ≡ true → P kind
        one n {r} p rest w = elim (or_cases (eqb kind n) r w) [ inl t ↦ subst P (sym (eqb-true kind n t)) p | inr t ↦ rest t ]

pub read_is_written : (h : Fields) (due : Due) (bs : List ℕ) (r : Rec) (tail : List ℕ) → All (λ b. b < 256) bs → reads h due bs ≡ Ok (r, tail) → WritesBack h bs r tail
unfolding bytes_of
read_is_written h due bs r tail q p =
    let c = cut_of h due bs r tail p in
    let body : List ℕ = take (body_len bs) (drop head_len bs) in
    let n : length body ≡ body_len bs = length-take-le (body_len bs) (drop head_len bs) c.held in
    let k0 = like_of h (kind_in bs) body (All-take _ (body_len bs) (drop head_len bs) (All-drop _ head_len bs q)) c.known (n ∙ c.body) in
    let k = subst (λ x. Like h x (kind_in bs) body) c.says k0 in
    let whole : body ++ tail ≡ drop head_len bs = ap (λ t. body ++ t) (sym c.behind) ∙ take-append-drop (body_len bs) (drop head_len bs) in
    let long : length (body_of r) ≡ body_for h (kind_of r) = ap length k.body_is ∙ n ∙ c.body ∙ ap (body_for h) (sym k.kind_is) in
    let len : length (framed (kind_of r) (body_of r)) ≡ head_len + body_for h (kind_of r) = omega arith in
    record {
      same = sym (ap (λ b. framed (kind_of r) b ++ tail) k.body_is
          ∙ ap (λ m. framed m body ++ tail) k.kind_is
          ∙ ap (λ m. (head_of m (kind_in bs) ++ body) ++ tail) n
          ∙ append_assoc (head_of (body_len bs) (kind_in bs)) body tail
          ∙ ap (λ t. head_of (body_len bs) (kind_in bs) ++ t) whole
          ∙ head_of_lem bs c.long q);
      writes = writes_if (in_range h r) (parts_fit h r) _ _ c.range k.fits len;
    }
  where
    writes_if : (i p : Bool) (m n : ℕ) → i ≡ true → p ≡ true → m ≡ n → ◌≡◌ {A = Result (Unit {0}) Refused} (cond (not i) (Err (plain 11)) (cond (not (p && eqb m n)) (Err (plain 3)) (Ok tt))) (Ok tt)
    writes_if i p m n ei ep e = grind (arith, nat_tests)

-- ---- records at their places

placed_ok : (at : ℕ) (x : Result (Rec × List ℕ) Refused) (y : Rec × List ℕ) → placed at x ≡ Ok y → x ≡ Ok y
placed_ok at (Ok x) y p = p
placed_ok at (Err e) y p = let z : ◌≡◌ {A = ℕ} 0 1 = cc in absurd (omega arith)

ended : (b : Bool) (e : Refused) (x : Result (Rec × List ℕ) Refused) (y : Rec × List ℕ) → cond b (Err e) x ≡ Ok y → x ≡ Ok y
ended true e x y p = let z : ◌≡◌ {A = ℕ} 0 1 = cc in absurd (omega arith)
ended false e x y p = p

pub cut_at : (h : Fields) (due : Due) (at : ℕ) (bs : List ℕ) (r : Rec) (tail : List ℕ) → reads_at h due at bs ≡ Ok (r, tail) → Cut h due bs r tail
unfolding reads_at
cut_at h due at bs r tail p = cut_of h due bs r tail (placed_ok at (reads h due bs) (r, tail) (ended (eqb (length bs) 0) (refused_at 10 at) (placed at (reads h due bs)) (r, tail) p))

-- the bytes behind a record that was read
pub behind_is : (h : Fields) (due : Due) (bs : List ℕ) (r : Rec) (tail : List ℕ) → Cut h due bs r tail → (tail ≡ drop (head_len + body_for h (kind_in bs)) bs) × (head_len + body_for h (kind_in bs) ≤ length bs)
behind_is h due bs r tail c =
    let e : tail ≡ drop (head_len + body_len bs) bs = sym c.behind ∙ drop-drop (body_len bs) head_len bs in
    let n = length-drop head_len bs in
    (e ∙ ap (λ m. drop (head_len + m) bs) c.body, omega (arith, c.held, c.long, c.body))

-- a reader that has read a record of some bytes comes to what is behind the record
pub further : (h : Fields) (due : Due) (at : ℕ) (bs : List ℕ) (r : Rec) (tail : List ℕ) → at ≤ length bs → reads_at h due at (drop at bs) ≡ Ok (r, tail) → drop (length bs - length tail) bs ≡ tail
further h due at bs r tail le p =
    let q = behind_is h due (drop at bs) r tail (cut_at h due at (drop at bs) r tail p) in
    let m : ℕ = head_len + body_for h (kind_in (drop at bs)) in
    let k : length bs - length tail ≡ at + m = omega (arith, ap length q.0, length-drop m (drop at bs), length-drop at bs, q.1) in
    ap (λ j. drop j bs) k ∙ sym (drop-drop m at bs) ∙ sym q.0
