-- The index says of each cell what the shares so far say.
use Rattle.std.proofs.Common.{◌≡◌, ℕ, ◌+◌, ◌*◌, ◌/◌, ◌%◌, ◌<◌, ◌≤◌, Bool, true, false, cond, not, ◌&&◌, eqb, ◌≢◌, List, ◌∷◌, length, get_or, take, drop, set, is_some, Some, None, sym, refl, ap, ◌∙◌, subst, inl, inr, arith, length-set, get_or-set_other, get_or-set_same, drop-drop}
use Rattle.std.proofs.lemmas.Nat.{div-mul-add, mod-mul-add}
use Rattle.std.proofs.lemmas.Bool.{cond-true, cond-false, ne_eqb, cases_Bool, cases_eq}
use Rattle.std.proofs.lemmas.Bool.Decides.{nat_tests}
use Rattle.erasure.specs.Limits.{ok_width}
use Rattle.header.specs.declared.cell.Axis.{Axis}
use Rattle.header.specs.declared.cell.Axis.TheVariants.{Row}
use Rattle.header.specs.Fields.{Fields}
use Rattle.header.specs.Lines.{row_at, col_at}
use Rattle.header.specs.Sizes.{width, has_cell, cell_number, head_len, path_len, share_body_len}
use Rattle.evidence.specs.Evidence.{Evidence}
use Rattle.blockfile.specs.declared.index.Index.{Index}
use Rattle.blockfile.specs.Index.{indexed, evidence_by, evidence_in, marked, Within}
use Rattle.blockfile.specs.Walk.{Entry, entry_at, shown_in}
use Rattle.blockfile.proofs.Cells.{row_low, col_low, number_low}
use Rattle.blockfile.proofs.Shares.{Parts}

abbrev pub Kept : Fields → List ℕ → List Entry → Index → Type 0
Kept h bs es ix = (r c : ℕ) → indexed h bs ix r c ≡ shown_in es r c

pub record Standing (h : Fields) (bs : List ℕ) (es : List Entry) (ix : Index) : Type 0 where
  pub kept : Kept h bs es ix
  pub within : Within h (length bs) ix.at
  pub at_long : length ix.at ≡ 4096
  pub axis_long : length ix.axis ≡ 4096

-- cells of one number are one cell
same_cell : (w r c r' c' : ℕ) → c < w → c' < w → r * w + c ≡ r' * w + c' → (r ≡ r') × (c ≡ c')
same_cell w r c r' c' a b e =
    (sym (div-mul-add r w c a) ∙ ap (λ n. n / w) e ∙ div-mul-add r' w c' b, sym (mod-mul-add r w c a) ∙ ap (λ n. n % w) e ∙ mod-mul-add r' w c' b)

inside : (h : Fields) (r c : ℕ) → r < width h → c < width h → has_cell h r c ≡ true
inside h r c a b = grind (arith, nat_tests)

outside : (h : Fields) (r c : ℕ) → has_cell h r c ≡ true → (r < width h) × (c < width h)
outside h r c e = (grind (arith, nat_tests), grind (arith, nat_tests))

-- the cell of a share is seen exactly if the index names a record there
pub seen_is : (h : Fields) (bs : List ℕ) (es : List Entry) (ix : Index) → Kept h bs es ix → (r c : ℕ) → r < width h → c < width h
    → is_some (shown_in es r c) ≡ not (eqb (get_or ix.at (cell_number h r c) 0) 0)
unfolding indexed
seen_is h bs es ix k r c a b =
    ap is_some (sym (k r c)) ∙ ap (λ t. is_some (cond t (evidence_by h bs (get_or ix.at (cell_number h r c) 0) (get_or ix.axis (cell_number h r c) Row)) None)) (inside h r c a b)
    ∙ none (eqb (get_or ix.at (cell_number h r c) 0) 0) (evidence_in h bs (get_or ix.at (cell_number h r c) 0) (get_or ix.axis (cell_number h r c) Row))
  where
    none : (t : Bool) (e : Evidence) → is_some (cond t None (Some e)) ≡ not t
    none true e = refl
    none false e = refl

-- a share record at place `at` of the file, for the cell at place p of line i
module _ (h : Fields) (bs : List ℕ) (es : List Entry) (ix : Index) (st : Standing h bs es ix) (wide : ok_width h.k ≡ true)
    (x : Axis) (i p at : ℕ) (s q rest : List ℕ) (line : i < width h) (some : 0 < at) (rest_is : rest ≡ drop at bs) (parts : Parts h rest p s q) (whole : at + length rest ≡ length bs) where
  abbrev cell : ℕ
  cell = cell_number h (row_at x i p) (col_at x i p)

  abbrev new : Index
  new = marked ix (cell_number h (row_at x i p) (col_at x i p)) at x

  row_in : row_at x i p < width h
  row_in = row_low x i p (width h) line parts.place_low

  col_in : col_at x i p < width h
  col_in = col_low x i p (width h) line parts.place_low

  n_low : cell_number h (row_at x i p) (col_at x i p) < 4096
  n_low = number_low h wide (row_at x i p) (col_at x i p) row_in col_in

  share_at : take h.s (drop (at + 8) bs) ≡ s
  share_at = ap (take h.s) (sym (drop-drop 8 at bs)) ∙ ap (λ l. take h.s (drop 8 l)) (sym rest_is) ∙ sym parts.share_is

  path_at : take (path_len h) (drop (at + (8 + h.s)) bs) ≡ q
  path_at = ap (take (path_len h)) (sym (drop-drop (8 + h.s) at bs)) ∙ ap (λ l. take (path_len h) (drop (8 + h.s) l)) (sym rest_is) ∙ sym parts.path_is

  evidence_at : evidence_in h bs at x ≡ record { axis = x; share = s; path = q }
  evidence_at =
      ap (λ y. record { axis = x; share = y; path = take (path_len h) (drop (at + (8 + h.s)) bs) }) share_at
      ∙ ap (λ y. record { axis = x; share = s; path = y }) path_at

  here : indexed h bs new (row_at x i p) (col_at x i p) ≡ Some (record { axis = x; share = s; path = q })
  unfolding indexed
  here =
      let a : get_or (set ix.at cell at) cell 0 ≡ at = get_or-set_same ix.at cell at 0 (omega (arith, n_low, st.at_long)) in
      let b : get_or (set ix.axis cell x) cell Row ≡ x = get_or-set_same ix.axis cell x Row (omega (arith, n_low, st.axis_long)) in
      let z : eqb at 0 ≡ false = ne_eqb at 0 (omega arith) in
      cond-true (has_cell h (row_at x i p) (col_at x i p)) _ None (inside h (row_at x i p) (col_at x i p) row_in col_in)
      ∙ ap (λ y. evidence_by h bs y (get_or (set ix.axis cell x) cell Row)) a
      ∙ ap (evidence_by h bs at) b
      ∙ cond-false (eqb at 0) None (Some (evidence_in h bs at x)) z
      ∙ ap Some evidence_at

  there : (r c : ℕ) → (eqb (row_at x i p) r && eqb (col_at x i p) c) ≡ false → indexed h bs new r c ≡ indexed h bs ix r c
  unfolding indexed
  there r c e = elim (cases_Bool (has_cell h r c)) [
    | inl t ↦
        let o = outside h r c t in
        let ne : cell_number h r c ≢ cell = λ same. differs (same_cell (width h) r c (row_at x i p) (col_at x i p) o.1 col_in same) in
        ap (λ y. cond (has_cell h r c) (evidence_by h bs y (get_or (set ix.axis cell x) (cell_number h r c) Row)) None) (get_or-set_other ix.at cell (cell_number h r c) at 0 ne)
        ∙ ap (λ y. cond (has_cell h r c) (evidence_by h bs (get_or ix.at (cell_number h r c) 0) y) None) (get_or-set_other ix.axis cell (cell_number h r c) x Row ne)
    | inr f ↦ cond-false (has_cell h r c) _ None f ∙ sym (cond-false (has_cell h r c) _ None f)
  ]
    where
      differs : (r ≡ row_at x i p) × (c ≡ col_at x i p) → ⊥
      differs both = let a = both.0 in let b = both.1 in grind (arith, nat_tests)

  pub noted_more : Standing h bs (entry_at x i p s q ∷ es) (marked ix (cell_number h (row_at x i p) (col_at x i p)) at x)
  unfolding shown_in
  noted_more = record {
    kept = λ r c. elim (cases_Bool (eqb (row_at x i p) r && eqb (col_at x i p) c)) [
      | inl t ↦
          let b = both t in
          ap (λ y. indexed h bs new y c) (sym b.0) ∙ ap (indexed h bs new (row_at x i p)) (sym b.1) ∙ here ∙ sym (cond-true (eqb (row_at x i p) r && eqb (col_at x i p) c) (Some (record { axis = x; share = s; path = q })) (shown_in es r c) t)
      | inr f ↦ there r c f ∙ st.kept r c ∙ sym (cond-false (eqb (row_at x i p) r && eqb (col_at x i p) c) (Some (record { axis = x; share = s; path = q })) (shown_in es r c) f)
    ];
    within = λ j l some'. elim (cases_eq j cell) [
      | inl e ↦ let a : get_or (set ix.at cell at) j 0 ≡ at = ap (λ m. get_or (set ix.at cell at) m 0) e ∙ get_or-set_same ix.at cell at 0 (omega (arith, n_low, st.at_long)) in omega (arith, a, parts.long)
      | inr ne ↦ let a : get_or (set ix.at cell at) j 0 ≡ get_or ix.at j 0 = get_or-set_other ix.at cell j at 0 ne in subst (λ y. y + (head_len + share_body_len h) ≤ length bs) (sym a) (st.within j l (λ z. some' (a ∙ z)))
    ];
    at_long = length-set ix.at cell at ∙ st.at_long;
    axis_long = length-set ix.axis cell x ∙ st.axis_long;
  }
    where
      both : {r c : ℕ} → (eqb (row_at x i p) r && eqb (col_at x i p) c) ≡ true → (row_at x i p ≡ r) × (col_at x i p ≡ c)
      both {r} {c} t = (grind (arith, nat_tests), grind (arith, nat_tests))
