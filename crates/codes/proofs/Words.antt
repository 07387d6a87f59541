-- Codewords of shares.
use Rattle.std.proofs.Common.{◌≡◌, ℕ, zero, suc, ◌+◌, ◌*◌, ◌%◌, ◌<◌, ◌≤◌, List, length, get_or, take, sym, ap, ◌∙◌, subst, mul-le-mul_right, mod-lt, arith, lit<}
use lib.Bits.{bit_xor, xor_lt}
use Rattle.std.proofs.lemmas.List.{length-take-le}
use Rattle.octets.specs.Shares.{byte_of}
use Rattle.octets.proofs.Shares.{bytes_from_share, same_from_bytes, buffer_length, buffer_byte, buffer_from_bytes, buffer_below, byte_take}
use Rattle.galois.specs.Field.{mul}
use Rattle.galois.proofs.Steps.{mul_byte, mul_low_r}
use Rattle.codes.specs.Over.{over}
use Rattle.codes.specs.Code.{Table, Places, FirstLaw, SecondLaw, applied, symbol}
use Rattle.codes.specs.Words.{at, codeword, IsWord, Through, WordsLaw}
use Rattle.codes.proofs.Ring as ring

-- ---- a row applied

pub applied_row : (n : ℕ) (row row' d : ℕ → ℕ) → ((j : ℕ) → j < n → row j ≡ row' j) → applied n row d ≡ applied n row' d
unfolding applied
applied_row n row row' d h =
    ring.over_same bit_xor 0 n (λ j. mul (row j) (d j)) (λ j. mul (row' j) (d j)) (λ j k. ap (λ (x : ℕ). mul x (d j)) (h j k))

pub applied_data : (n : ℕ) (row d d' : ℕ → ℕ) → ((j : ℕ) → j < n → d j ≡ d' j) → applied n row d ≡ applied n row d'
unfolding applied
applied_data n row d d' h =
    ring.over_same bit_xor 0 n (λ j. mul (row j) (d j)) (λ j. mul (row j) (d' j)) (λ j k. ap (mul (row j)) (h j k))

pub applied_byte : (n : ℕ) (row d : ℕ → ℕ) → applied n row d < 256
unfolding applied over
applied_byte zero row d = lit< tt
applied_byte (suc n) row d = xor_lt 8 (mul (row n) (d n)) (applied n row d) (mul_byte (row n) (d n)) (applied_byte n row d)

-- only the low bytes of the data matter
pub applied_low : (n : ℕ) (row d : ℕ → ℕ) → applied n row (λ j. d j % 256) ≡ applied n row d
unfolding applied
applied_low n row d =
    ring.over_same bit_xor 0 n (λ j. mul (row j) (d j % 256)) (λ j. mul (row j) (d j)) (λ j k. mul_low_r (row j) (d j))

pub first_low : (T : Table) → FirstLaw T → (k : ℕ) → k ≤ 128 → (d : ℕ → ℕ) (i : ℕ) → i < k → symbol T k d i ≡ d i % 256
first_low T law k hk d i h = sym (applied_low k (T k i) d) ∙ law k hk (λ j. d j % 256) i h (mod-lt (d i) (lit< tt))

-- ---- codewords

pub codeword_length : (T : Table) (k s : ℕ) (xs : List ℕ) → length (codeword T k s xs) ≡ 2 * k * s
unfolding codeword
codeword_length T k s xs = buffer_length (2 * k) s (λ i b. symbol T k (λ j. byte_of s j b xs) i)

-- byte b of share i is symbol i of the bytes b
pub codeword_byte : (T : Table) (k s i b : ℕ) (xs : List ℕ) → i < 2 * k → b < s
    → byte_of s i b (codeword T k s xs) ≡ symbol T k (λ j. byte_of s j b xs) i
unfolding codeword
codeword_byte T k s i b xs hi hb = buffer_byte (2 * k) s (λ i b. symbol T k (λ j. byte_of s j b xs) i) i b hi hb

-- a list of the right length with the right bytes is the codeword
pub codeword_from_bytes : (T : Table) (k s : ℕ) (xs ws : List ℕ) → length ws ≡ 2 * k * s
    → ((i : ℕ) → i < 2 * k → (b : ℕ) → b < s → byte_of s i b ws ≡ symbol T k (λ j. byte_of s j b xs) i) → ws ≡ codeword T k s xs
unfolding codeword
codeword_from_bytes T k s xs ws long h = buffer_from_bytes (2 * k) s (λ i b. symbol T k (λ j. byte_of s j b xs) i) ws long h

-- a codeword is that of any buffer that begins with its first k shares
pub codeword_same : (T : Table) (k s : ℕ) (xs ys : List ℕ)
    → ((j : ℕ) → j < k → (b : ℕ) → b < s → byte_of s j b xs ≡ byte_of s j b ys) → codeword T k s xs ≡ codeword T k s ys
codeword_same T k s xs ys h =
    codeword_from_bytes T k s ys (codeword T k s xs) (codeword_length T k s xs)
    (λ i hi b hb. codeword_byte T k s i b xs hi hb ∙ applied_data k (T k i) (λ j. byte_of s j b xs) (λ j. byte_of s j b ys) (λ j hj. h j hj b hb))

-- it consists of bytes
pub codeword_small : (T : Table) (k s : ℕ) (xs : List ℕ) (n : ℕ) → get_or (codeword T k s xs) n 0 < 256
unfolding codeword
codeword_small T k s xs n =
    buffer_below (2 * k) s 256 (λ i b. symbol T k (λ j. byte_of s j b xs) i) (lit< tt) (λ i b. applied_byte k (T k i) (λ j. byte_of s j b xs)) n

-- ---- words

pub word_small : (T : Table) (k s : ℕ) (ws : List ℕ) → IsWord T k s ws → (n : ℕ) → get_or ws n 0 < 256
word_small T k s ws w n = subst (λ zs. get_or zs n 0 < 256) (sym w.own) (codeword_small T k s (take (k * s) ws) n)

pub word_byte : (T : Table) (k s : ℕ) (ws : List ℕ) → IsWord T k s ws → (i b : ℕ) → i < 2 * k → b < s
    → byte_of s i b ws ≡ symbol T k (λ j. byte_of s j b ws) i
word_byte T k s ws w i b hi hb =
    ap (byte_of s i b) w.own ∙ codeword_byte T k s i b (take (k * s) ws) hi hb
    ∙ applied_data k (T k i) (λ j. byte_of s j b (take (k * s) ws)) (λ j. byte_of s j b ws) (λ j hj. byte_take k s j b ws hj hb)

pub word_from_bytes : (T : Table) (k s : ℕ) (ws : List ℕ) → length ws ≡ 2 * k * s
    → ((i : ℕ) → i < 2 * k → (b : ℕ) → b < s → byte_of s i b ws ≡ symbol T k (λ j. byte_of s j b ws) i) → IsWord T k s ws
word_from_bytes T k s ws long h =
    record {
      long = long;
      own = codeword_from_bytes T k s (take (k * s) ws) ws long
          (λ i hi b hb. h i hi b hb
          ∙ applied_data k (T k i) (λ j. byte_of s j b ws) (λ j. byte_of s j b (take (k * s) ws)) (λ j hj. sym (byte_take k s j b ws hj hb)));
    }

-- a codeword is one, whatever it is of
pub codeword_word : (T : Table) → FirstLaw T → (k s : ℕ) → k ≤ 128 → (xs : List ℕ) → IsWord T k s (codeword T k s xs)
codeword_word T first k s hk xs =
    word_from_bytes T k s (codeword T k s xs) (codeword_length T k s xs)
    (λ i hi b hb.
    codeword_byte T k s i b xs hi hb ∙ sym (applied_low k (T k i) (λ j. byte_of s j b xs))
    ∙ applied_data k (T k i) (λ j. byte_of s j b xs % 256) (λ j. byte_of s j b (codeword T k s xs))
    (λ j hj. sym (codeword_byte T k s j b xs (omega arith) hb ∙ first_low T first k hk (λ j. byte_of s j b xs) j hj)))

-- its first k shares are the data
pub codeword_front : (T : Table) → FirstLaw T → (k s : ℕ) → k ≤ 128 → (xs : List ℕ) → length xs ≡ k * s → ((n : ℕ) → get_or xs n 0 < 256)
    → take (k * s) (codeword T k s xs) ≡ xs
codeword_front T first k s hk xs long small =
    same_from_bytes k s (take (k * s) (codeword T k s xs)) xs front long
    (λ i hi b hb. byte_take k s i b (codeword T k s xs) hi hb ∙ codeword_byte T k s i b xs (omega arith) hb
    ∙ first k hk (λ j. byte_of s j b xs) i hi (small (i * s + b)))
  where
    front : length (take (k * s) (codeword T k s xs)) ≡ k * s
    front =
        length-take-le (k * s) (codeword T k s xs)
        (subst (λ (x : ℕ). k * s ≤ x) (sym (codeword_length T k s xs)) (mul-le-mul_right s (let t : k ≤ 2 * k = omega arith in t)))

-- two words that agree in k shares are equal
pub words_law : (T : Table) → SecondLaw T → WordsLaw T
words_law T law k s hk vs ws v w p pl same =
    same_from_bytes (2 * k) s vs ws v.long w.long
    (λ i hi b hb.
    word_byte T k s vs v i b hi hb
    ∙ law k hk (λ j. byte_of s j b vs) (λ j. byte_of s j b ws) p pl
    (λ j hj. sym (word_byte T k s vs v (p j) b (pl.below j hj) hb)
    ∙ bytes_from_share s (p j) (p j) b vs ws hb (same j hj)
    ∙ word_byte T k s ws w (p j) b (pl.below j hj) hb) i hi
    ∙ sym (word_byte T k s ws w i b hi hb))

-- and so there is one word through given shares
pub through_only : (T : Table) → SecondLaw T → (k s : ℕ) → k ≤ 128 → (ps xs vs ws : List ℕ) → Places k (at ps)
    → Through T k s ps xs vs → Through T k s ps xs ws → vs ≡ ws
through_only T law k s hk ps xs vs ws pl v w =
    words_law T law k s hk vs ws v.word w.word (at ps) pl (λ j h. v.given j h ∙ sym (w.given j h))
