-- Tables of weights.
use Rattle.std.proofs.Common.{◌≡◌, ℕ, ◌-◌, ◌*◌, ◌<◌, ◌≤◌, true, cond, ◌&&◌, eqb, List, length, take, drop, replicate, sym, refl, ap, ◌∙◌, arith, length-drop, length-take}
use Rattle.std.proofs.lemmas.Nat.{mul-le}
use Rattle.std.proofs.lemmas.Bool.{and_parts, and_from, eqb-true, eq-eqb, cond-true}
use Rattle.octets.specs.Shares.{byte_of}
use Rattle.octets.proofs.Shares.{buffer_byte, buffer_length, buffer_from_bytes}
use Rattle.codes.specs.Code.{Places, Weight}
use Rattle.codes.specs.Words.{at}
use Rattle.erasure.specs.Limits.{ok_width}
use Rattle.erasure.specs.Places.{rising_below}
use Rattle.erasure.specs.Weights.{weight_table, weighable, weighed}
use Rattle.erasure.proofs.Bounds.{width_most}
use Rattle.erasure.proofs.Rises.{rising_places}

-- what it takes to have weights
pub record Weighable (ps : List ℕ) (n : ℕ) : Type 0 where
  pub narrow : length ps < 33
  pub places : Places (length ps) (at ps)
  pub long : n ≡ 2 * length ps * length ps

pub weighable_parts : (ps : List ℕ) (n : ℕ) → weighable ps n ≡ true → Weighable ps n
unfolding weighable
weighable_parts ps n h =
    let a = and_parts (ok_width (length ps)) (rising_below (2 * length ps) ps && eqb n (2 * length ps * length ps)) h in
    let b = and_parts (rising_below (2 * length ps) ps) (eqb n (2 * length ps * length ps)) a.1 in
    let l : length ps ≤ 32 = width_most (length ps) a.0 in
    record { narrow = omega arith; places = rising_places (length ps) ps refl b.0; long = eqb-true n (2 * length ps * length ps) b.1 }

pub weighable_from : (ps : List ℕ) (n : ℕ) → ok_width (length ps) ≡ true → rising_below (2 * length ps) ps ≡ true → n ≡ 2 * length ps * length ps
    → weighable ps n ≡ true
unfolding weighable
weighable_from ps n w r e =
    and_from (ok_width (length ps)) (rising_below (2 * length ps) ps && eqb n (2 * length ps * length ps)) w
    (and_from (rising_below (2 * length ps) ps) (eqb n (2 * length ps * length ps)) r (eq-eqb n (2 * length ps * length ps) e))

-- a table fits a space of 2048 bytes
pub room : (k : ℕ) → k ≤ 32 → 2 * k * k ≤ 2048
room k l = mul-le (2 * k) k 64 32 (omega arith) l

pub room_long : (n : ℕ) → n ≤ 2048 → length (take (n - 0) (drop 0 (replicate {A = ℕ} 2048 0))) ≡ n
room_long n h = simp (length-take, length-drop) (omega arith)

-- once the weights are written they stand there
pub weighed_whole : (W : Weight) (ps old : List ℕ) → ok_width (length ps) ≡ true → rising_below (2 * length ps) ps ≡ true → length old ≡ 2 * length ps * length ps
    → weighed W ps old ≡ weight_table W (length ps) ps
weighed_whole W ps old w r e = cond-true (weighable ps (length old)) (weight_table W (length ps) ps) old (weighable_from ps (length old) w r e)

pub table_byte : (W : Weight) (k : ℕ) (ps : List ℕ) (i j : ℕ) → i < 2 * k → j < k → byte_of k i j (weight_table W k ps) ≡ W k (at ps) i j
unfolding weight_table
table_byte W k ps i j hi hj = buffer_byte (2 * k) k (λ i j. W k (at ps) i j) i j hi hj

pub table_long : (W : Weight) (k : ℕ) (ps : List ℕ) → length (weight_table W k ps) ≡ 2 * k * k
unfolding weight_table
table_long W k ps = buffer_length (2 * k) k (λ i j. W k (at ps) i j)

pub weighed_at : (W : Weight) (ps old : List ℕ) → weighable ps (length old) ≡ true → (i j : ℕ) → i < 2 * length ps → j < length ps
    → byte_of (length ps) i j (weighed W ps old) ≡ W (length ps) (at ps) i j
unfolding weight_table
weighed_at W ps old h i j hi hj =
    ap (λ t. byte_of (length ps) i j (cond t (weight_table W (length ps) ps) old)) h
    ∙ buffer_byte (2 * length ps) (length ps) (λ i j. W (length ps) (at ps) i j) i j hi hj

pub weighed_from : (W : Weight) (ps old new : List ℕ) → weighable ps (length old) ≡ true → length new ≡ length old
    → ((i : ℕ) → i < 2 * length ps → (j : ℕ) → j < length ps → byte_of (length ps) i j new ≡ W (length ps) (at ps) i j)
    → new ≡ weighed W ps old
unfolding weight_table
weighed_from W ps old new h same bytes =
    buffer_from_bytes (2 * length ps) (length ps) (λ i j. W (length ps) (at ps) i j) new (same ∙ (weighable_parts ps (length old) h).long) bytes
    ∙ sym (ap (λ t. cond t (weight_table W (length ps) ps) old) h)
