-- Lengths of a block that fit.
use Rattle.std.proofs.Common.{◌≡◌, ℕ, ◌<◌, true, cond, not, ◌&&◌, eqb, List, length, Ok, Err, sym, ap, ◌∙◌}
use Rattle.std.proofs.lemmas.Bool.{and_from, and_parts, eq-eqb, eqb-true, lt-ltb}
use Rattle.octets.specs.Outcome.{plain}
use Rattle.codes.specs.Code.{Table, Weight}
use Rattle.erasure.specs.Limits.{ok_width, ok_size}
use Rattle.header.specs.Fields.{Fields}
use Rattle.header.specs.Sizes.{width, data_len, square_len, roots_len, path_len, string_len, has_cell}
use Rattle.extension.specs.Square.{fill_fits}
use Rattle.evidence.specs.Paths.{block_fits, evidence_outcome}
use Rattle.extraction.specs.Extracted.{square_of, extract_fits}
use Rattle.extraction.specs.Extract.{extracted_from, extract_outcome}

pub fill_granted : (h : Fields) (n m : ℕ) → ok_width h.k ≡ true → ok_size h.s ≡ true → n ≡ data_len h → m ≡ square_len h → fill_fits h.k h.s n m ≡ true
unfolding fill_fits
fill_granted h n m wide sized e l =
    and_from _ _ wide (and_from _ _ sized (and_from _ _ (eq-eqb n (data_len h) e) (eq-eqb m (square_len h) l)))

-- evidence is written where nothing is to be refused
pub evidence_granted : (kind : ℕ) (h : Fields) (r c n m p : ℕ) → h.hash_kind ≡ kind → r < width h → c < width h → n ≡ square_len h → m ≡ roots_len h → p ≡ path_len h
    → evidence_outcome kind h r c n m p ≡ Ok tt
evidence_granted kind h r c n m p k a b e l q =
    ap (λ t. cond (not t) (Err (plain 13)) (cond (not (has_cell h r c)) (Err (plain 15)) (cond (not (block_fits h n m p)) (Err (plain 3)) (Ok tt)))) (eq-eqb h.hash_kind kind k)
    ∙ ap (λ t. cond (not t) (Err (plain 15)) (cond (not (block_fits h n m p)) (Err (plain 3)) (Ok tt))) (and_from _ _ (lt-ltb r (width h) a) (lt-ltb c (width h) b))
    ∙ ap (λ t. cond (not t) (Err (plain 3)) (Ok tt)) (and_from _ _ (eq-eqb n (square_len h) e) (and_from _ _ (eq-eqb m (roots_len h) l) (eq-eqb p (path_len h) q)))

-- extraction, where neither kinds nor lengths are refused
pub extract_granted : (f : List ℕ → List ℕ) (W : Weight) (T : Table) (hash_kind code_kind : ℕ) (h : Fields) (d bytes : List ℕ) (a b n : ℕ)
    → h.hash_kind ≡ hash_kind → h.code_kind ≡ code_kind → extract_fits h (length d) a b n ≡ true
    → extracted_from f W h (square_of T h d) bytes ≡ extract_outcome f W T hash_kind code_kind h d bytes a b n
extract_granted f W T hash_kind code_kind h d bytes a b n k l fits =
    sym (ap (λ t. cond (not t) (Err (plain 13)) (cond (not (eqb h.code_kind code_kind)) (Err (plain 14)) (cond (not (extract_fits h (length d) a b n)) (Err (plain 3)) (extracted_from f W h (square_of T h d) bytes)))) (eq-eqb h.hash_kind hash_kind k)
    ∙ ap (λ t. cond (not t) (Err (plain 14)) (cond (not (extract_fits h (length d) a b n)) (Err (plain 3)) (extracted_from f W h (square_of T h d) bytes))) (eq-eqb h.code_kind code_kind l)
    ∙ ap (λ t. cond (not t) (Err (plain 3)) (extracted_from f W h (square_of T h d) bytes)) fits)

pub record ExtractFits (h : Fields) (d a b n : ℕ) : Type 0 where
  pub shares : d ≡ data_len h
  pub one : a ≡ string_len
  pub other : b ≡ string_len
  pub square : n ≡ square_len h

pub extract_parts : (h : Fields) (d a b n : ℕ) → extract_fits h d a b n ≡ true → ExtractFits h d a b n
extract_parts h d a b n e =
    let p = and_parts (eqb d (data_len h)) (eqb a string_len && (eqb b string_len && eqb n (square_len h))) e in
    let q = and_parts (eqb a string_len) (eqb b string_len && eqb n (square_len h)) p.1 in
    let r = and_parts (eqb b string_len) (eqb n (square_len h)) q.1 in
    record { shares = eqb-true d (data_len h) p.0; one = eqb-true a string_len q.0; other = eqb-true b string_len r.0; square = eqb-true n (square_len h) r.1 }
