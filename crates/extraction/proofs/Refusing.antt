-- Extractions that are refused for another code kind or for a length.
use Rattle.std.proofs.Common.{◌≡◌, ℕ, false, cond, not, eqb, List, length, Err, Result, sym, refl, ap, ◌∙◌, arith}
use Rattle.std.proofs.lemmas.Bool.{eq-eqb, ne_eqb}
use Rattle.octets.specs.Outcome.{Refused, plain}
use Rattle.codes.specs.Code.{Table, Weight}
use Rattle.header.specs.Fields.{Fields}
use Rattle.extraction.specs.Extracted.{square_of, extract_fits}
use Rattle.extraction.specs.Extract.{extracted_from, extract_outcome, Writes, AlwaysInHand}

-- the strings stay, and nothing is answered
pub refused_writes : (f : List ℕ → List ℕ) (h : Fields) (sq bytes : List ℕ) (e : Refused) (x y : List ℕ) → Writes f h sq bytes (Err e) x y x y
refused_writes f h sq bytes e x y = record { one = refl; other = refl }

pub refused_hand : (f : List ℕ → List ℕ) (e : Refused) (x y : List ℕ) → AlwaysInHand f (Err e) x y
refused_hand f e x y n p = absurd (let z : ◌≡◌ {A = ℕ} 0 1 = cc in omega arith)

module _ (f : List ℕ → List ℕ) (W : Weight) (T : Table) (hash_kind code_kind : ℕ) (h : Fields) (d bytes : List ℕ) (a b n : ℕ) where
  abbrev rest : Result ℕ Refused
  rest = cond (not (extract_fits h (length d) a b n)) (Err (plain 3)) (extracted_from f W h (square_of T h d) bytes)

  pub refused_code : h.hash_kind ≡ hash_kind → (h.code_kind ≡ code_kind → ⊥) → Err (plain 14) ≡ extract_outcome f W T hash_kind code_kind h d bytes a b n
  refused_code k l =
      sym (ap (λ t. cond (not t) (Err (plain 13)) (cond (not (eqb h.code_kind code_kind)) (Err (plain 14)) rest)) (eq-eqb h.hash_kind hash_kind k)
      ∙ ap (λ t. cond (not t) (Err (plain 14)) rest) (ne_eqb h.code_kind code_kind l))

  pub refused_length : h.hash_kind ≡ hash_kind → h.code_kind ≡ code_kind → extract_fits h (length d) a b n ≡ false
      → Err (plain 3) ≡ extract_outcome f W T hash_kind code_kind h d bytes a b n
  refused_length k l fits =
      sym (ap (λ t. cond (not t) (Err (plain 13)) (cond (not (eqb h.code_kind code_kind)) (Err (plain 14)) rest)) (eq-eqb h.hash_kind hash_kind k)
      ∙ ap (λ t. cond (not t) (Err (plain 14)) rest) (eq-eqb h.code_kind code_kind l)
      ∙ ap (λ t. cond (not t) (Err (plain 3)) (extracted_from f W h (square_of T h d) bytes)) fits)
