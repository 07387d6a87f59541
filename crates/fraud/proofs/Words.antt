-- The codeword through the witnesses, cell by cell.
use Rattle.std.proofs.Common.{◌≡◌, ℕ, ◌+◌, ◌-◌, ◌*◌, ◌<◌, ◌≤◌, true, List, ◌++◌, map, length, get_or, take, drop, replicate, sym, ap, ◌∙◌, subst, arith, lit<, length-append, length-drop, length-take, add-mul, drop-drop}
use Rattle.std.proofs.Math.Nat.{le_of_mul-le-mul_right, lt_of_mul-lt-mul_right}
use Rattle.std.proofs.Math.Seq.{take-append_seam, drop-append_seam}
use lib.ListN.{length-replicate}
use Rattle.std.specs.List.{range_with_len}
use Rattle.std.proofs.lemmas.List.{ext_get_or, get_or-take, get_or-drop}
use Rattle.std.proofs.lemmas.Bool.{cond-true}
use Rattle.octets.specs.Shares.{share, byte_of}
use Rattle.octets.proofs.Joins.{joined_below}
use Rattle.octets.proofs.Shares.{share_inside, share_byte_lem, share_length, buffer_length, buffer_byte}
use Rattle.codes.specs.Code.{Table, Weight, WeightLaw, Places, applied}
use Rattle.codes.specs.Words.{at, Through}
use Rattle.codes.proofs.Words.{applied_row, applied_data}
use Rattle.erasure.specs.Limits.{ok_width}
use Rattle.erasure.specs.Places.{rising_below}
use Rattle.erasure.specs.Weights.{weight_table, weighable, weighed}
use Rattle.erasure.proofs.Tables.{weighable_from}
use Rattle.erasure.specs.Rows.{row_sum}
use Rattle.erasure.proofs.Parts.{row_sum_length, row_sum_byte}
use Rattle.erasure.proofs.Recovers.{through_from_weights}
use Rattle.header.specs.Fields.{Fields}
use Rattle.header.specs.Sizes.{depth}
use Rattle.header.proofs.Measures.{depth_power}
use Rattle.merkle.specs.Tree.{root}
use Rattle.merkle.specs.Climb.{plain_rule, leaf_of, join_of}
use Rattle.merkle.proofs.Same.{node_same}
use Rattle.commitment.specs.Values.{value_root}
use Rattle.fraudproof.specs.Proof.{witness_len, witness_of, witness_at}
use Rattle.fraud.specs.Accepted.{shares_of}
use Rattle.fraud.specs.Check.{word_by}
use Rattle.fraud.proofs.Cases.{shares_length, shares_byte, shares_joined, part_small}

-- ---- the word

pub word_length : (W : Weight) (k s : ℕ) (ps xs : List ℕ) → length (word_by W k s ps xs) ≡ 2 * k * s
unfolding word_by
word_length W k s ps xs = buffer_length (2 * k) s (λ i b. applied k (W k (at ps) i) (λ j. byte_of s j b xs))

pub word_byte : (W : Weight) (k s : ℕ) (ps xs : List ℕ) (i b : ℕ) → i < 2 * k → b < s
    → byte_of s i b (word_by W k s ps xs) ≡ applied k (W k (at ps) i) (λ j. byte_of s j b xs)
unfolding word_by
word_byte W k s ps xs i b hi hb = buffer_byte (2 * k) s (λ i b. applied k (W k (at ps) i) (λ j. byte_of s j b xs)) i b hi hb

-- it is the codeword through the shares
pub word_through : (T : Table) (W : Weight) → WeightLaw T W → (k s : ℕ) → k ≤ 128 → (ps xs : List ℕ) → Places k (at ps)
    → length xs ≡ k * s → ((n : ℕ) → get_or xs n 0 < 256) → Through T k s ps xs (word_by W k s ps xs)
word_through T W law k s hk ps xs pl long small =
    through_from_weights T W law k s hk ps xs (word_by W k s ps xs) pl long (word_length W k s ps xs) small
    (λ i hi b hb. word_byte W k s ps xs i b hi hb)

-- ---- the table of weights

table_length : (W : Weight) (k : ℕ) (ps : List ℕ) → length (weight_table W k ps) ≡ 2 * k * k
unfolding weight_table
table_length W k ps = buffer_length (2 * k) k (λ i j. W k (at ps) i j)

table_byte : (W : Weight) (k : ℕ) (ps : List ℕ) (i j : ℕ) → i < 2 * k → j < k → byte_of k i j (weight_table W k ps) ≡ W k (at ps) i j
unfolding weight_table
table_byte W k ps i j hi hj = buffer_byte (2 * k) k (λ i j. W k (at ps) i j) i j hi hj

-- ---- the witnesses in their records

module _ (h : Fields) (ws : List ℕ) (long : length ws ≡ h.k * witness_len h) where
  pub witness_share_long : (i : ℕ) → i < h.k → length (witness_at h ws i).share ≡ h.s
  unfolding witness_of
  witness_share_long i l =
      let a : i * witness_len h + witness_len h ≤ h.k * witness_len h = share_inside i h.k (witness_len h) l in
      simp (length-take, length-drop) (omega arith)

  pub witness_share_byte : (i b : ℕ) → b < h.s → get_or (witness_at h ws i).share b 0 ≡ byte_of (witness_len h) i (9 + b) ws
  unfolding witness_of
  witness_share_byte i b l =
      get_or-take h.s (drop 9 (drop (i * witness_len h) ws)) b 0 l
      ∙ get_or-drop 9 (drop (i * witness_len h) ws) b 0
      ∙ get_or-drop (i * witness_len h) ws (9 + b) 0

  pub all_shares_long : length (shares_of (map (witness_at h ws) (range_with_len 0 h.k))) ≡ h.k * h.s
  all_shares_long = shares_length (witness_at h ws) h.s 0 h.k (λ i l. witness_share_long i (omega arith))

  pub all_shares_byte : (m b : ℕ) → m < h.k → b < h.s
      → byte_of h.s m b (shares_of (map (witness_at h ws) (range_with_len 0 h.k))) ≡ byte_of (witness_len h) m (9 + b) ws
  all_shares_byte m b l lb =
      shares_byte (witness_at h ws) h.s 0 h.k (λ i l. witness_share_long i (omega arith)) m b l lb
      ∙ ap (λ i. get_or (witness_at h ws i).share b 0) (let e : 0 + m ≡ m = omega arith in e)
      ∙ witness_share_byte m b lb

  -- a cell of the word is the sum of its row
  pub cell_is : (W : Weight) (ps : List ℕ) (i : ℕ) → i < 2 * h.k
      → row_sum (share h.k i (weight_table W h.k ps)) (witness_len h) 9 h.s ws
      ≡ share h.s i (word_by W h.k h.s ps (shares_of (map (witness_at h ws) (range_with_len 0 h.k))))
  cell_is W ps i l =
      let k = h.k in
      let s = h.s in
      let table = weight_table W k ps in
      let row = share k i table in
      let xs = shares_of (map (witness_at h ws) (range_with_len 0 k)) in
      let word = word_by W k s ps xs in
      let wide : length row ≡ k = share_length k i (2 * k) table (table_length W k ps) l in
      let size : length (row_sum row (witness_len h) 9 s ws) ≡ s = row_sum_length row (witness_len h) 9 s ws in
      ext_get_or 0 (row_sum row (witness_len h) 9 s ws) (share s i word) (size ∙ sym (share_length s i (2 * k) word (word_length W k s ps xs) l))
      (λ b hb.
      let lb : b < s = omega arith in
      row_sum_byte row (witness_len h) 9 s ws b lb
      ∙ ap (λ n. applied n (at row) (λ j. byte_of (witness_len h) j (9 + b) ws)) wide
      ∙ applied_row k (at row) (W k (at ps) i) (λ j. byte_of (witness_len h) j (9 + b) ws) (λ j hj. share_byte_lem k i j table hj ∙ table_byte W k ps i j l hj)
      ∙ applied_data k (W k (at ps) i) (λ j. byte_of (witness_len h) j (9 + b) ws) (λ j. byte_of s j b xs) (λ j hj. sym (all_shares_byte j b hj lb))
      ∙ sym (word_byte W k s ps xs i b l lb)
      ∙ sym (share_byte_lem s i b word lb))

  -- and so the root over the sums is the root of the word
  pub root_is : ok_width h.k ≡ true → (f : List ℕ → List ℕ) (W : Weight) (ps : List ℕ)
      → root (join_of plain_rule f) (depth h) (λ j. leaf_of plain_rule f (row_sum (share h.k j (weight_table W h.k ps)) (witness_len h) 9 h.s ws))
      ≡ value_root f (depth h) h.s (word_by W h.k h.s ps (shares_of (map (witness_at h ws) (range_with_len 0 h.k))))
  unfolding value_root
  root_is wide f W ps =
      node_same (join_of plain_rule f) _ _ (depth h) 0
      (λ j l. ap (leaf_of plain_rule f) (cell_is W ps j (omega (arith, depth_power h.k wide))))

  -- the shares are bytes, as the records are
  pub all_shares_small : ((n : ℕ) → get_or ws n 0 < 256) → (n : ℕ) → get_or (shares_of (map (witness_at h ws) (range_with_len 0 h.k))) n 0 < 256
  unfolding witness_of
  all_shares_small small n =
      subst (λ xs. get_or xs n 0 < 256) (sym (shares_joined (witness_at h ws) 0 h.k))
      (joined_below (λ i. (witness_at h ws i).share) 256 (lit< tt) (λ i m. part_small h.s 9 (drop (i * witness_len h) ws) m
      (λ b. subst (λ x. x < 256) (sym (get_or-drop (i * witness_len h) ws b 0)) (small (i * witness_len h + b)))) (range_with_len 0 h.k) n)

-- once the weights are written the rows are the table
pub rows_are : (W : Weight) (k : ℕ) (ps old new : List ℕ) → length ps ≡ k → ok_width k ≡ true → rising_below (2 * k) ps ≡ true → length old ≡ 2 * k * k
    → new ≡ weighed W ps old → new ≡ weight_table W k ps
rows_are W k ps old new long wide rises room e =
    let w : ok_width (length ps) ≡ true = ap ok_width long ∙ wide in
    let r : rising_below (2 * length ps) ps ≡ true = ap (λ n. rising_below (2 * n) ps) long ∙ rises in
    let m : length old ≡ 2 * length ps * length ps = room ∙ ap (λ n. 2 * n * n) (sym long) in
    e ∙ cond-true (weighable ps (length old)) _ _ (weighable_from ps (length old) w r m) ∙ ap (λ n. weight_table W n ps) long

-- the part of a space that is taken
pub space_long : (n m : ℕ) → n ≤ m → length (take (n - 0) (drop 0 (replicate {A = ℕ} m 0))) ≡ n
space_long n m l = simp (length-take, length-drop, length-replicate) (omega arith)

-- ---- going through the rows of weights

module _ (k i : ℕ) (rows rest : List ℕ) (is : rest ≡ drop (i * k) rows) where
  -- row i comes
  pub record Row (row behind : List ℕ) : Type 0 where
    pub more : i * k + k ≤ length rows
    pub here : row ≡ share k i rows
    pub others : behind ≡ drop ((i + 1) * k) rows

  pub row_turn : (row behind : List ℕ) → i * k ≤ length rows → rest ≡ row ++ behind → length row ≡ k → Row row behind
  unfolding share
  row_turn row behind inside cut long =
      let n : length rest ≡ length row + length behind = ap length cut ∙ length-append row behind in
      let m : length rest ≡ length rows - i * k = ap length is ∙ length-drop (i * k) rows in
      let size : i * k + k ≡ (i + 1) * k = omega (arith, add-mul i 1 k) in
      record {
        more = omega (arith, n, m, long, inside);
        here = sym (ap (take k) (sym is ∙ cut) ∙ ap (λ n. take n (row ++ behind)) (sym long) ∙ take-append_seam row behind);
        others = sym (ap (λ x. drop x rows) (sym size) ∙ sym (drop-drop k (i * k) rows) ∙ ap (drop k) (sym is ∙ cut) ∙ ap (λ n. drop n (row ++ behind)) (sym long) ∙ drop-append_seam row behind);
      }

  -- there are no more than n rows in n times k bytes, and no fewer where none comes
  pub row_few : (n : ℕ) → 0 < k → length rows ≡ n * k → i * k + k ≤ length rows → i < n
  row_few n some long more =
      let size : i * k + k ≡ (i + 1) * k = omega (arith, add-mul i 1 k) in
      let l : (i + 1) * k ≤ n * k = omega (arith, size, long, more) in
      omega (arith, le_of_mul-le-mul_right l some)

  pub row_end : (n : ℕ) → length rows ≡ n * k → i * k ≤ length rows → length rest < k → n ≤ i
  row_end n long inside short =
      let size : i * k + k ≡ (i + 1) * k = omega (arith, add-mul i 1 k) in
      let l : n * k < (i + 1) * k = omega (arith, size, long, ap length is, length-drop (i * k) rows, inside, short) in
      omega (arith, lt_of_mul-lt-mul_right k l)
