-- An accepted proof against the header of an extension always gives a collision.
use Rattle.std.proofs.Common.{◌≡◌, ℕ, true, false, List, None, sym, subst}
use Rattle.std.proofs.lemmas.Slice.Eq.{bytes_eq-Decides}
use Rattle.std.proofs.lemmas.Bool.{both_ways}
use Rattle.merkle.proofs.Bound.{same_true, none_some}
use Rattle.codes.specs.Code.{Table}
use Rattle.header.specs.Fields.{Fields}
use Rattle.commitment.specs.Roots.{roots_of, data_root_of}
use Rattle.square.specs.Extend.{Extended}
use Rattle.fraudproof.specs.Proof.{Case}
use Rattle.fraud.specs.Accepted.{Condemns}
use Rattle.extraction.specs.Extracted.{is_header_of, Compares}

-- the header of a square, and one that is not its
pub header_is : (f : List ℕ → List ℕ) (h : Fields) (sq : List ℕ) → is_header_of f h sq ≡ true → h.data_root ≡ data_root_of f h (roots_of f h sq)
header_is f h sq e = sym ((bytes_eq-Decides (data_root_of f h (roots_of f h sq)) h.data_root).0 e)

pub header_not : (f : List ℕ → List ℕ) (h : Fields) (sq : List ℕ) → is_header_of f h sq ≡ false → h.data_root ≡ data_root_of f h (roots_of f h sq) → ⊥
header_not f h sq e own = both_ways (is_header_of f h sq) e (same_true (data_root_of f h (roots_of f h sq)) h.data_root (sym own))

-- a comparison finds something
pub always_found : (f : List ℕ → List ℕ) (T : Table) (h : Fields) (d sq sq' : List ℕ) (p : Case) (x y x' y' : List ℕ) → sq' ≡ sq → Extended f T h d sq (roots_of f h sq)
    → is_header_of f h sq ≡ true → Condemns f T h p → Compares f h sq' p None x y x' y' → ⊥
always_found f T h d sq sq' p x y x' y' same ext own condemns c =
    let found = (subst (λ s. Compares f h s p None x y x' y') same c).meets T d ext (header_is f h sq own) condemns in
    none_some found.0 found.1
