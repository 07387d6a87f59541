-- The lengths of the evidence that a file has.
use Rattle.std.proofs.Common.{◌≡◌, ℕ, ◌+◌, ◌≤◌, true, cond, eqb, List, length, get_or, drop, Some, None, Option, sym, ap, ◌∙◌, subst, inl, inr, arith, length-drop, length-take-le}
use Rattle.std.proofs.lemmas.Bool.{cases_Bool, eqb-false}
use Rattle.erasure.specs.Limits.{ok_width}
use Rattle.header.specs.declared.cell.Axis.{Axis}
use Rattle.header.specs.declared.cell.Axis.TheVariants.{Row}
use Rattle.header.specs.Fields.{Fields}
use Rattle.header.specs.Sizes.{has_cell, cell_number, path_len, head_len, share_body_len}
use Rattle.evidence.specs.Evidence.{Evidence}
use Rattle.blockfile.specs.declared.index.Index.{Index}
use Rattle.blockfile.specs.Index.{indexed, evidence_in, evidence_by, Within}
use Rattle.blockfile.proofs.Cells.{inside_of, number_low}

-- a share and a path of the block's lengths
pub record Sized (h : Fields) (e : Evidence) : Type 0 where
  pub share : length e.share ≡ h.s
  pub path : length e.path ≡ path_len h

never : {A : Type 0} (e : Evidence) → ◌≡◌ {A = Option Evidence} None (Some e) → A
never e p = let z : ◌≡◌ {A = ℕ} 0 1 = cc in absurd (omega arith)

in_file : (h : Fields) (bs : List ℕ) (p : ℕ) (x : Axis) → p + (head_len + share_body_len h) ≤ length bs → Sized h (evidence_in h bs p x)
in_file h bs p x room = record {
  share = length-take-le h.s (drop (p + 8) bs) (simp length-drop (omega arith));
  path = length-take-le (path_len h) (drop (p + (8 + h.s)) bs) (simp length-drop (omega arith));
}

taken : (h : Fields) (bs : List ℕ) (p : ℕ) (x : Axis) (e : Evidence) → ((p ≡ 0 → ⊥) → p + (head_len + share_body_len h) ≤ length bs) → evidence_by h bs p x ≡ Some e → Sized h e
taken h bs p x e room q =
    elim (cases_Bool (eqb p 0)) [
      | inl t ↦ never e (sym (ap (λ b. cond b None (Some (evidence_in h bs p x))) t) ∙ q)
      | inr t ↦
          let r : Some (evidence_in h bs p x) ≡ Some e = sym (ap (λ b. cond b None (Some (evidence_in h bs p x))) t) ∙ q in
          let s : evidence_in h bs p x ≡ e = cc in
          subst (λ v. Sized h v) s (in_file h bs p x (room (eqb-false p 0 t)))
    ]

pub sized : (h : Fields) → ok_width h.k ≡ true → (bs : List ℕ) (ix : Index) → Within h (length bs) ix.at → (r c : ℕ) (e : Evidence) → indexed h bs ix r c ≡ Some e → Sized h e
unfolding indexed
sized h wide bs ix within r c e q =
    elim (cases_Bool (has_cell h r c)) [
      | inl t ↦
          let i = inside_of h r c (sym t) in
          let n = number_low h wide r c i.0 i.1 in
          taken h bs (get_or ix.at (cell_number h r c) 0) (get_or ix.axis (cell_number h r c) Row) e (within (cell_number h r c) n)
          (sym (ap (λ x. cond x (evidence_by h bs (get_or ix.at (cell_number h r c) 0) (get_or ix.axis (cell_number h r c) Row)) None) t) ∙ q)
      | inr t ↦ never e (sym (ap (λ x. cond x (evidence_by h bs (get_or ix.at (cell_number h r c) 0) (get_or ix.axis (cell_number h r c) Row)) None) t) ∙ q)
    ]
