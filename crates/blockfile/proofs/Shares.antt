-- Share records and groups that were read.
use Rattle.std.proofs.Common.{◌≡◌, ℕ, ◌+◌, ◌<◌, ◌≤◌, true, eqb, List, length, take, drop, Ok, sym, ap, ◌∙◌, inl, inr, arith, take-take, drop-drop}
use Rattle.std.proofs.lemmas.List.{drop-take}
use Rattle.std.proofs.lemmas.Bool.{eqb-true, or_cases}
use Rattle.std.proofs.lemmas.Bool.Decides.{nat_tests}
use Rattle.header.specs.Fields.{Fields}
use Rattle.header.specs.Sizes.{width, head_len, path_len, share_body_len}
use Rattle.wire.specs.declared.due.Due.TheVariants as due
use Rattle.wire.specs.declared.due.Due.{Due}
use Rattle.wire.specs.Values.{Rec, group, share, end}
use Rattle.wire.specs.Reading.{is_due, kind_in, body_len, body_for, record_in, in_range, reads_at}
use Rattle.wire.specs.Writing.{first_of, second_of}
use Rattle.wire.proofs.Trips.{Cut, cut_at, behind_is}

-- the parts of a share record, cut from bytes that begin with the record
pub record Parts (h : Fields) (bs : List ℕ) (p : ℕ) (s q : List ℕ) : Type 0 where
  pub share_is : s ≡ take h.s (drop 8 bs)
  pub path_is : q ≡ take (path_len h) (drop (8 + h.s) bs)
  pub place_low : p < width h
  pub long : head_len + share_body_len h ≤ length bs

place_of : (h : Fields) (p : ℕ) (s q : List ℕ) → in_range h (share p s q) ≡ true → p < width h
unfolding in_range
place_of h p s q e = grind (arith, nat_tests)

never : {A : Type 0} (p : ℕ) (s q : List ℕ) → end ≡ share p s q → A
never p s q e = let z : ◌≡◌ {A = ℕ} 0 1 = cc in absurd (omega arith)

pub share_read : (h : Fields) (at : ℕ) (bs : List ℕ) (p : ℕ) (s q rest : List ℕ) → reads_at h due.InGroup at bs ≡ Ok (share p s q, rest) → Parts h bs p s q
unfolding is_due body_for record_in
share_read h at bs p s q rest e =
    let c = cut_at h due.InGroup at bs (share p s q) rest e in
    elim (or_cases (eqb (kind_in bs) 4) (eqb (kind_in bs) 5) c.isdue) [
      | inl t ↦ parts c (eqb-true (kind_in bs) 4 t)
      | inr t ↦ never p s q (ap (λ m. record_in h m (take (body_len bs) (drop head_len bs))) (sym (eqb-true (kind_in bs) 5 t)) ∙ c.says)
    ]
  where
    parts : Cut h due.InGroup bs (share p s q) rest → kind_in bs ≡ 4 → Parts h bs p s q
    parts c k =
        let f : body_for h (kind_in bs) ≡ share_body_len h = ap (body_for h) k in
        let n : body_len bs ≡ 2 + (h.s + path_len h) = c.body ∙ f ∙ omega arith in
        let b : List ℕ = take (body_len bs) (drop head_len bs) in
        let says : record_in h 4 b ≡ share p s q = ap (λ m. record_in h m b) (sym k) ∙ c.says in
        let t : drop 2 b ≡ take (h.s + path_len h) (drop 8 bs) = ap (λ m. drop 2 (take m (drop 6 bs))) n ∙ drop-take 2 (h.s + path_len h) (drop 6 bs) ∙ ap (take (h.s + path_len h)) (drop-drop 2 6 bs) in
        let sh : take h.s (drop 2 b) ≡ take h.s (drop 8 bs) = ap (take h.s) t ∙ take-take h.s (h.s + path_len h) (drop 8 bs) (omega arith) in
        let pa : drop h.s (drop 2 b) ≡ take (path_len h) (drop (8 + h.s) bs) = ap (drop h.s) t ∙ drop-take h.s (path_len h) (drop 8 bs) ∙ ap (take (path_len h)) (drop-drop h.s 8 bs) in
        let q' = behind_is h due.InGroup bs (share p s q) rest c in
        record {
          share_is = sym (ap first_of says) ∙ sh;
          path_is = sym (ap second_of says) ∙ pa;
          place_low = place_of h p s q c.range;
          long = omega (arith, q'.1, f);
        }

group_of : (h : Fields) (a i : ℕ) → in_range h (group a i) ≡ true → i < width h
unfolding in_range
group_of h a i e = grind (arith, nat_tests)

pub group_read : (h : Fields) (at : ℕ) (bs : List ℕ) (a i : ℕ) (rest : List ℕ) → reads_at h due.Group at bs ≡ Ok (group a i, rest) → i < width h
group_read h at bs a i rest e = group_of h a i (cut_at h due.Group at bs (group a i) rest e).range

pub in_its_range : (h : Fields) (d : Due) (at : ℕ) (bs : List ℕ) (x : Rec) (rest : List ℕ) → reads_at h d at bs ≡ Ok (x, rest) → in_range h x ≡ true
in_its_range h d at bs x rest e = (cut_at h d at bs x rest e).range
