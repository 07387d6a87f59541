-- Cells of a line.
use Rattle.std.proofs.Common.{◌≡◌, ℕ, ◌<◌, Bool, true, false, cond, eqb, List, get_or, Some, None, Option, sym, refl, ap, ◌∙◌, arith}
use Rattle.std.proofs.lemmas.Bool.{cond-true}
use Rattle.std.proofs.lemmas.Bool.Decides.{nat_tests}
use Rattle.evidence.specs.Evidence.{Evidence}
use Rattle.blockfile.specs.declared.index.Index.{Index}
use Rattle.blockfile.specs.declared.index.Place.{Place}
use Rattle.blockfile.specs.Index.{entry_of, indexed, evidence_by, evidence_in}
use Rattle.octets.proofs.Cells.{cell_below}
use Rattle.erasure.specs.Limits.{ok_width}
use Rattle.header.specs.declared.cell.Axis.{Axis}
use Rattle.header.specs.declared.cell.Axis.TheVariants.{Row, Column}
use Rattle.header.specs.Fields.{Fields}
use Rattle.header.specs.Lines.{row_at, col_at}
use Rattle.header.specs.Sizes.{width, cell_number, has_cell}
use Rattle.header.proofs.Measures.{cells_most}

pub row_low : (x : Axis) (i p w : ℕ) → i < w → p < w → row_at x i p < w
row_low Row i p w a b = a
row_low Column i p w a b = b

pub col_low : (x : Axis) (i p w : ℕ) → i < w → p < w → col_at x i p < w
col_low Row i p w a b = b
col_low Column i p w a b = a

pub number_low : (h : Fields) → ok_width h.k ≡ true → (r c : ℕ) → r < width h → c < width h → cell_number h r c < 4096
number_low h w r c a b =
    let m = cells_most h w in
    let n = cell_below (width h) (width h) r c a b in
    omega arith

pub inside_of : (h : Fields) (r c : ℕ) → true ≡ has_cell h r c → (r < width h) × (c < width h)
inside_of h r c e = (grind (arith, nat_tests), grind (arith, nat_tests))

-- what an index says of a cell, by its number and its entry
module _ (h : Fields) (bs : List ℕ) (ix : Index) (r c : ℕ) where
  pub says_none : None ≡ cond (has_cell h r c) (Some (cell_number h r c)) None → None ≡ indexed h bs ix r c
  unfolding indexed
  says_none e = none (has_cell h r c) (evidence_by h bs (get_or ix.at (cell_number h r c) 0) (get_or ix.axis (cell_number h r c) Row)) e
    where
      none : (b : Bool) (x : Option Evidence) → ◌≡◌ {A = Option ℕ} None (cond b (Some (cell_number h r c)) None) → None ≡ cond b x None
      none true x e = let z : ◌≡◌ {A = ℕ} 0 1 = cc in absurd (omega arith)
      none false x e = refl

  some : (b : Bool) (n : ℕ) → ◌≡◌ {A = Option ℕ} (Some n) (cond b (Some (cell_number h r c)) None) → (b ≡ true) × (n ≡ cell_number h r c)
  some true n e = (refl, cc)
  some false n e = let z : ◌≡◌ {A = ℕ} 0 1 = cc in absurd (omega arith)

  pub says_by : (n : ℕ) → Some n ≡ cond (has_cell h r c) (Some (cell_number h r c)) None → evidence_by h bs (get_or ix.at n 0) (get_or ix.axis n Row) ≡ indexed h bs ix r c
  unfolding indexed
  says_by n e =
      let s = some (has_cell h r c) n e in
      ap (λ m. evidence_by h bs (get_or ix.at m 0) (get_or ix.axis m Row)) s.1 ∙ sym (cond-true (has_cell h r c) _ None s.0)

-- what an index says of a cell, by the share record that it has for the cell
module _ (h : Fields) (bs : List ℕ) (ix : Index) (n : ℕ) where
  pub none_there : None ≡ entry_of ix n → None ≡ evidence_by h bs (get_or ix.at n 0) (get_or ix.axis n Row)
  none_there e = none (eqb (get_or ix.at n 0) 0) (record { at = get_or ix.at n 0; axis = get_or ix.axis n Row }) (evidence_in h bs (get_or ix.at n 0) (get_or ix.axis n Row)) e
    where
      none : (b : Bool) (y : Place) (e : Evidence) → ◌≡◌ {A = Option Place} None (cond b None (Some y)) → ◌≡◌ {A = Option Evidence} None (cond b None (Some e))
      none true y e p = refl
      none false y e p = let z : ◌≡◌ {A = ℕ} 0 1 = cc in absurd (omega arith)

  pub found_there : (y : Place) → Some y ≡ entry_of ix n → Some (evidence_in h bs y.at y.axis) ≡ evidence_by h bs (get_or ix.at n 0) (get_or ix.axis n Row)
  found_there y e = found (eqb (get_or ix.at n 0) 0) (record { at = get_or ix.at n 0; axis = get_or ix.axis n Row }) e
    where
      found : (b : Bool) (w : Place) → ◌≡◌ {A = Option Place} (Some y) (cond b None (Some w)) → ◌≡◌ {A = Option Evidence} (Some (evidence_in h bs y.at y.axis)) (cond b None (Some (evidence_in h bs w.at w.axis)))
      found true w p = let z : ◌≡◌ {A = ℕ} 0 1 = cc in absurd (omega arith)
      found false w p = let same : y ≡ w = cc in ap (λ t. Some (evidence_in h bs t.at t.axis)) same
