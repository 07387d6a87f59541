-- A square filled by rows, and then by all columns at once.
use Rattle.std.proofs.Common.{◌≡◌, ℕ, ◌+◌, ◌*◌, ◌<◌, ◌≤◌, true, cond, ◌&&◌, eqb, List, length, get_or, take, Ok, Err, Result, sym, refl, ap, ◌∙◌, mul_assoc, arith}
use Rattle.std.proofs.lemmas.Nat.{mul-le}
use Rattle.std.proofs.lemmas.Bool.{and_parts, and_from, eqb-true, eq-eqb, cond-true}
use Rattle.octets.specs.Outcome.{Refused, outcome}
use Rattle.octets.specs.Written.{written}
use Rattle.octets.specs.Shares.{share, byte_of}
use Rattle.octets.proofs.Shares.{byte_take}
use Rattle.octets.proofs.Cells.{byte_cell, byte_row, cell_inside}
use Rattle.codes.specs.Code.{Table, symbol}
use Rattle.codes.specs.Words.{codeword}
use Rattle.codes.proofs.Words.{applied_data, codeword_length, codeword_byte}
use Rattle.erasure.specs.Limits.{ok_width, ok_size}
use Rattle.erasure.specs.Refusals.{told}
use Rattle.erasure.specs.declared.refusal.CodeRefusal.{CodeRefusal}
use Rattle.erasure.specs.Calls.{encode_outcome, complete_fits}
use Rattle.erasure.proofs.Recovers.{encode_fine, not_both}
use Rattle.erasure.proofs.Parity.{complete_fits_lem}
use Rattle.erasure.proofs.Bounds.{width_most, width_some, size_most}
use Rattle.extension.specs.Square.{cell_byte, extension, fill_fits}
use Rattle.extension.proofs.Squares.{extension_from_bytes}

-- the lengths are small
pub record Small (k s : ℕ) : Type 0 where
  pub narrow : k ≤ 32
  pub cells : k * k ≤ 1024
  pub shares : k * k * s ≤ 524288
  pub all : 2 * k * (2 * k) ≤ 4096
  pub square : 2 * k * (2 * k) * s ≤ 2097152
  pub row : k * s ≤ 16384
  pub line : 2 * k * s ≤ 32768
  pub half : k * (2 * k * s) ≤ 1048576

pub small : (k s : ℕ) → ok_width k ≡ true → ok_size s ≡ true → Small k s
small k s w z =
    let a : k ≤ 32 = width_most k w in
    let b : s ≤ 512 = size_most s z in
    let c : k * k ≤ 1024 = mul-le k k 32 32 a a in
    let d : 2 * k * (2 * k) ≤ 4096 = mul-le (2 * k) (2 * k) 64 64 (omega arith) (omega arith) in
    let l : 2 * k * s ≤ 32768 = mul-le (2 * k) s 64 512 (omega arith) b in
    record {
      narrow = a;
      cells = c;
      shares = mul-le (k * k) s 1024 512 c b;
      all = d;
      square = mul-le (2 * k * (2 * k)) s 4096 512 d b;
      row = mul-le k s 32 512 a b;
      line = l;
      half = mul-le k (2 * k * s) 32 32768 a l;
    }

-- what it takes to fill a square
pub record FillFits (k s n m : ℕ) : Type 0 where
  pub wide : ok_width k ≡ true
  pub sized : ok_size s ≡ true
  pub from : n ≡ k * k * s
  pub into : m ≡ 2 * k * (2 * k) * s

pub fill_parts : (k s n m : ℕ) → fill_fits k s n m ≡ true → FillFits k s n m
unfolding fill_fits
fill_parts k s n m h =
    let a = and_parts (ok_width k) (ok_size s && (eqb n (k * k * s) && eqb m (2 * k * (2 * k) * s))) h in
    let b = and_parts (ok_size s) (eqb n (k * k * s) && eqb m (2 * k * (2 * k) * s)) a.1 in
    let e = and_parts (eqb n (k * k * s)) (eqb m (2 * k * (2 * k) * s)) b.1 in
    record { wide = a.0; sized = b.0; from = eqb-true n (k * k * s) e.0; into = eqb-true m (2 * k * (2 * k) * s) e.1 }

pub fill_fits_lem : (k s n m : ℕ) → ok_width k ≡ true → ok_size s ≡ true → n ≡ k * k * s → m ≡ 2 * k * (2 * k) * s → fill_fits k s n m ≡ true
unfolding fill_fits
fill_fits_lem k s n m w z e f =
    and_from (ok_width k) (ok_size s && (eqb n (k * k * s) && eqb m (2 * k * (2 * k) * s))) w
    (and_from (ok_size s) (eqb n (k * k * s) && eqb m (2 * k * (2 * k) * s)) z
    (and_from (eqb n (k * k * s)) (eqb m (2 * k * (2 * k) * s)) (eq-eqb n (k * k * s) e) (eq-eqb m (2 * k * (2 * k) * s) f)))

-- the k rows of the data extended, and then their columns, all as one codeword whose shares are rows
pub extension_from_rows : (T : Table) (k s : ℕ) (d sq : List ℕ)
    → ((r : ℕ) → r < k → (x : ℕ) → x < 2 * k * s → byte_of (2 * k * s) r x sq ≡ get_or (codeword T k s (share (k * s) r d)) x 0)
    → codeword T k (2 * k * s) (take (k * (2 * k * s)) sq) ≡ extension T k s d
extension_from_rows T k s d sq rows =
    extension_from_bytes T k s d (codeword T k (2 * k * s) (take (k * (2 * k * s)) sq))
    (codeword_length T k (2 * k * s) (take (k * (2 * k * s)) sq) ∙ sym (mul_assoc (2 * k) (2 * k) s))
    (λ r c hr hc b hb.
    let lt : c * s + b < 2 * k * s = cell_inside (2 * k) s c b hc hb in
    sym (byte_cell (2 * k) s r c b (codeword T k (2 * k * s) (take (k * (2 * k * s)) sq)))
    ∙ codeword_byte T k (2 * k * s) r (c * s + b) (take (k * (2 * k * s)) sq) hr lt
    ∙ applied_data k (T k r) (λ j. byte_of (2 * k * s) j (c * s + b) (take (k * (2 * k * s)) sq)) (λ i. symbol T k (λ j. cell_byte k s i j b d) c)
    (λ i hi.
    byte_take k (2 * k * s) i (c * s + b) sq hi lt ∙ rows i hi (c * s + b) lt ∙ codeword_byte T k s c b (share (k * s) i d) hc hb
    ∙ applied_data k (T k c) (λ j. byte_of s j b (share (k * s) i d)) (λ j. cell_byte k s i j b d) (λ j hj. byte_row k s i j b d hj hb)))

-- a row of the data and a line of the square can be encoded
pub row_fits : (k s : ℕ) (row old : List ℕ) → ok_width k ≡ true → ok_size s ≡ true → length row ≡ k * s → length old ≡ 2 * k * s
    → encode_outcome k s (length row) (length old) ≡ Ok tt
row_fits k s row old wide sized lr lo =
    encode_fine k s (length row) (length old) wide sized
    (and_from (eqb (length row) (k * s)) (eqb (length old) (2 * k * s)) (eq-eqb (length row) (k * s) lr) (eq-eqb (length old) (2 * k * s) lo))

-- and where nothing is refused there is no refusal
pub never_refused : (r : Result (Unit {0}) CodeRefusal) (o : Result (Unit {0}) Refused) → outcome told r ≡ o → o ≡ Ok tt → ((x : Unit {0}) → r ≡ Ok x → ⊥) → ⊥
never_refused (Ok x) o e f n = n x refl
never_refused (Err y) o e f n = not_both o (told y) tt (sym e) f

-- what an encoding of one row leaves in its part of the square
pub encoded_row : (T : Table) (k s : ℕ) (row old new : List ℕ) → ok_width k ≡ true → ok_size s ≡ true → length row ≡ k * s → length old ≡ 2 * k * s
    → new ≡ written (encode_outcome k s (length row) (length old)) (codeword T k s row) old → new ≡ codeword T k s row
encoded_row T k s row old new wide sized lr lo e =
    e ∙ ap (λ o. written o (codeword T k s row) old) (row_fits k s row old wide sized lr lo)

-- a square can be completed
pub columns_fit : (k s : ℕ) (old : List ℕ) → ok_width k ≡ true → ok_size s ≡ true → length old ≡ 2 * k * (2 * k * s)
    → complete_fits k (2 * k) s (length old) ≡ true
columns_fit k s old wide sized long =
    complete_fits_lem k (2 * k) s (length old) wide (omega (arith, width_some k wide)) (omega (arith, width_most k wide)) (size_most s sized) long

-- what the completion of a square of rows leaves in it
pub columns_filled : (T : Table) (k s : ℕ) (old new : List ℕ) → ok_width k ≡ true → ok_size s ≡ true → length old ≡ 2 * k * (2 * k * s)
    → new ≡ cond (complete_fits k (2 * k) s (length old)) (codeword T k (2 * k * s) (take (k * (2 * k * s)) old)) old
    → new ≡ codeword T k (2 * k * s) (take (k * (2 * k * s)) old)
columns_filled T k s old new wide sized long e =
    e
    ∙ cond-true (complete_fits k (2 * k) s (length old)) (codeword T k (2 * k * s) (take (k * (2 * k * s)) old)) old
    (columns_fit k s old wide sized long)
