-- The walk over the records of a proof.
use Rattle.std.proofs.Common.{◌≡◌, ℕ, zero, suc, ◌+◌, ◌-◌, ◌*◌, ◌<◌, ◌≤◌, true, false, eqb, List, [], ◌∷◌, ◌++◌, map, length, get_or, take, drop, Ok, Err, Result, sym, refl, ap, ◌∙◌, subst, append_assoc, append-nil, add-mul, arith, length-drop, get_or-drop, get_or-take, take-take, drop-drop, below_more}
use Rattle.std.specs.List.{range_with_len}
use Rattle.std.proofs.lemmas.List.FromFn.{map-range_with_len_more}
use Rattle.std.proofs.lemmas.List.{drop-take}
use Rattle.std.proofs.lemmas.Bool.{eqb-true, cond-true, cond-false}
use Rattle.std.proofs.lemmas.Bool.Decides.{nat_tests}
use Rattle.octets.specs.Outcome.{Refused}
use Rattle.header.specs.Fields.{Fields}
use Rattle.header.specs.Sizes.{width, head_len, path_len, witness_body_len}
use Rattle.wire.specs.declared.due.Due.TheVariants as due
use Rattle.wire.specs.Values as values
use Rattle.wire.specs.Values.{Rec, witness}
use Rattle.wire.specs.Reading.{is_due, kind_in, body_for, record_in, witness_in, in_range, reads_at}
use Rattle.wire.proofs.Trips.{cut_at, behind_is}
use Rattle.fraudproof.specs.Form.{left_over, at_last, in_front, one_more, go_on, witnesses_from}
use Rattle.fraudproof.specs.Proof.{witness_len, witness_of, witness_at}
use Rattle.fraudproof.specs.Reads.{WitnessRecords}

-- the body of a witness record, cut from bytes that begin with the record
body_is : (h : Fields) (bs : List ℕ) → witness_in h (take (witness_body_len h) (drop head_len bs)) ≡ witness (witness_of h bs)
unfolding witness_of
body_is h bs =
    let b : List ℕ = take (witness_body_len h) (drop head_len bs) in
    let g0 : get_or b 0 0 ≡ get_or bs 6 0 = get_or-take (witness_body_len h) (drop 6 bs) 0 0 (omega arith) ∙ get_or-drop 6 bs 0 0 in
    let g1 : get_or b 1 0 ≡ get_or bs 7 0 = get_or-take (witness_body_len h) (drop 6 bs) 1 0 (omega arith) ∙ get_or-drop 6 bs 1 0 in
    let g2 : get_or b 2 0 ≡ get_or bs 8 0 = get_or-take (witness_body_len h) (drop 6 bs) 2 0 (omega arith) ∙ get_or-drop 6 bs 2 0 in
    let n : witness_body_len h ≡ 3 + (h.s + path_len h) = omega arith in
    let t : drop 3 b ≡ take (h.s + path_len h) (drop 9 bs) = ap (λ m. drop 3 (take m (drop 6 bs))) n ∙ drop-take 3 (h.s + path_len h) (drop 6 bs) ∙ ap (take (h.s + path_len h)) (drop-drop 3 6 bs) in
    let sh : take h.s (drop 3 b) ≡ take h.s (drop 9 bs) = ap (take h.s) t ∙ take-take h.s (h.s + path_len h) (drop 9 bs) (omega arith) in
    let pa : drop h.s (drop 3 b) ≡ take (path_len h) (drop (9 + h.s) bs) = ap (drop h.s) t ∙ drop-take h.s (path_len h) (drop 9 bs) ∙ ap (take (path_len h)) (drop-drop h.s 9 bs) in
    ap (λ x. witness (record { place = x + get_or b 1 0 * 256; axis = get_or b 2 0; share = take h.s (drop 3 b); path = drop h.s (drop 3 b) })) g0
    ∙ ap (λ x. witness (record { place = get_or bs 6 0 + x * 256; axis = get_or b 2 0; share = take h.s (drop 3 b); path = drop h.s (drop 3 b) })) g1
    ∙ ap (λ x. witness (record { place = get_or bs 6 0 + get_or bs 7 0 * 256; axis = x; share = take h.s (drop 3 b); path = drop h.s (drop 3 b) })) g2
    ∙ ap (λ x. witness (record { place = get_or bs 6 0 + get_or bs 7 0 * 256; axis = get_or bs 8 0; share = x; path = drop h.s (drop 3 b) })) sh
    ∙ ap (λ x. witness (record { place = get_or bs 6 0 + get_or bs 7 0 * 256; axis = get_or bs 8 0; share = take h.s (drop 9 bs); path = x })) pa

-- one witness that was read
pub record Read (h : Fields) (bs : List ℕ) (x : Rec) (rest : List ℕ) : Type 0 where
  pub is : x ≡ witness (witness_of h bs)
  pub behind : rest ≡ drop (witness_len h) bs
  pub long : witness_len h ≤ length bs
  pub place_low : (witness_of h bs).place < width h
  pub axis_low : (witness_of h bs).axis ≤ 1

ranges : (h : Fields) (v : values.Witness) → in_range h (witness v) ≡ true → (v.place < width h) × (v.axis ≤ 1)
unfolding in_range
ranges h v p = (grind (arith, nat_tests), grind (arith, nat_tests))

pub witness_read : (h : Fields) (at : ℕ) (bs : List ℕ) (x : Rec) (rest : List ℕ) → reads_at h due.Witness at bs ≡ Ok (x, rest) → Read h bs x rest
unfolding is_due body_for record_in
witness_read h at bs x rest p =
    let c = cut_at h due.Witness at bs x rest p in
    let k : kind_in bs ≡ 17 = eqb-true _ 17 c.isdue in
    let b = behind_is h due.Witness bs x rest c in
    let f : body_for h (kind_in bs) ≡ witness_body_len h = ap (body_for h) k in
    let says : record_in h 17 (take (witness_body_len h) (drop head_len bs)) ≡ x = ap (λ m. record_in h m (take (witness_body_len h) (drop head_len bs))) (sym k) ∙ ap (λ m. record_in h (kind_in bs) (take m (drop head_len bs))) (sym (c.body ∙ f)) ∙ c.says in
    let is : x ≡ witness (witness_of h bs) = sym says ∙ body_is h bs in
    let r = ranges h (witness_of h bs) (ap (in_range h) (sym is) ∙ c.range) in
    record {
      is = is;
      behind = b.0 ∙ ap (λ m. drop (head_len + m) bs) f;
      long = omega (arith, b.1, f);
      place_low = r.0;
      axis_low = r.1;
    }

pub nothing_read : (h : Fields) (at : ℕ) (bs : List ℕ) (x : Rec × List ℕ) → reads_at h due.Nothing at bs ≡ Ok x → ⊥
unfolding is_due
nothing_read h at bs x p = let c = cut_at h due.Nothing at bs x.0 x.1 p in let z : false ≡ true = c.isdue in grind (arith, nat_tests)

-- some witnesses in front of what is read behind them
abbrev pub prepend : List values.Witness → Result (List values.Witness) Refused → Result (List values.Witness) Refused
prepend vs (Ok ws) = Ok (vs ++ ws)
prepend vs (Err e) = Err e

prepend_more : (vs : List values.Witness) (v : values.Witness) (r : Result (List values.Witness) Refused) → prepend vs (in_front v r) ≡ prepend (vs ++ v ∷ []) r
prepend_more vs v (Ok ws) = ap Ok (sym (append_assoc vs (v ∷ []) ws))
prepend_more vs v (Err e) = refl

-- i of the k witnesses were read, up to place `at`, and `rest` is behind them
pub record Walked (h : Fields) (k start : ℕ) (ws : List ℕ) (i at : ℕ) (rest : List ℕ) : Type 0 where
  pub at_is : at ≡ start + i * witness_len h
  pub rest_is : rest ≡ drop (i * witness_len h) ws
  pub inside : i * witness_len h ≤ length ws
  pub whole : witnesses_from h k start ws ≡ prepend (map (witness_at h ws) (range_with_len 0 i)) (witnesses_from h (k - i) at rest)
  pub places : (j : ℕ) → j < i → (witness_at h ws j).place < width h
  pub axes : (j : ℕ) → j < i → (witness_at h ws j).axis ≤ 1

pub walk_none : (h : Fields) (k start : ℕ) (ws : List ℕ) → Walked h k start ws 0 start ws
walk_none h k start ws =
    let z : k - 0 ≡ k = omega arith in
    let zero-times : 0 * witness_len h ≡ 0 = omega arith in
    record {
      at_is = omega arith;
      rest_is = ap (λ m. drop m ws) (sym zero-times);
      inside = omega arith;
      whole = none (witnesses_from h k start ws) ∙ ap (λ m. prepend [] (witnesses_from h m start ws)) (sym z);
      places = λ j l. absurd (omega arith);
      axes = λ j l. absurd (omega arith);
    }
  where
    none : (r : Result (List values.Witness) Refused) → r ≡ prepend [] r
    none (Ok ws) = refl
    none (Err e) = refl

-- one step of the reading, where a witness is due
step : (h : Fields) (n at : ℕ) (bs : List ℕ) → 0 < n → witnesses_from h n at bs ≡ go_on (witnesses_from h (n - 1)) at (length bs) (reads_at h due.Witness at bs)
unfolding witnesses_from
step h zero at bs l = absurd (omega arith)
step h (suc n) at bs l = let e : suc n - 1 ≡ n = omega arith in rw e refl

module _ (h : Fields) (k start : ℕ) (ws : List ℕ) (i at : ℕ) (rest : List ℕ) (w : Walked h k start ws i at rest) (more : i < k) where
  here : witness_at h ws i ≡ witness_of h rest
  here = ap (witness_of h) (sym w.rest_is)

  turned : witnesses_from h k start ws ≡ prepend (map (witness_at h ws) (range_with_len 0 i)) (go_on (witnesses_from h (k - i - 1)) at (length rest) (reads_at h due.Witness at rest))
  turned = w.whole ∙ ap (prepend (map (witness_at h ws) (range_with_len 0 i))) (step h (k - i) at rest (omega arith))

  pub walk_break : (e : Refused) → Err e ≡ reads_at h due.Witness at rest → Err e ≡ witnesses_from h k start ws
  walk_break e p = sym (turned ∙ ap (λ x. prepend (map (witness_at h ws) (range_with_len 0 i)) (go_on (witnesses_from h (k - i - 1)) at (length rest) x)) (sym p))

  pub walk_more : (x : Rec) (behind : List ℕ) → Ok (x, behind) ≡ reads_at h due.Witness at rest → (next : ℕ) → next ≡ at + (length rest - length behind)
      → Walked h k start ws (i + 1) next behind
  walk_more x behind p next next-is =
      let r = witness_read h at rest x behind (sym p) in
      let size : (i + 1) * witness_len h ≡ i * witness_len h + witness_len h = omega (arith, add-mul i 1 (witness_len h)) in
      let long_rest : length rest + i * witness_len h ≡ length ws = omega (arith, ap length w.rest_is, length-drop (i * witness_len h) ws, w.inside) in
      let long-behind : length behind + witness_len h ≡ length rest = omega (arith, ap length r.behind, length-drop (witness_len h) rest, r.long) in
      let after : behind ≡ drop ((i + 1) * witness_len h) ws = r.behind ∙ ap (drop (witness_len h)) w.rest_is ∙ drop-drop (witness_len h) (i * witness_len h) ws ∙ ap (λ m. drop m ws) (sym size) in
      let v : Rec = witness (witness_of h rest) in
      let go : Result (List values.Witness) Refused = witnesses_from h (k - i - 1) next behind in
      let one : go_on (witnesses_from h (k - i - 1)) at (length rest) (reads_at h due.Witness at rest) ≡ in_front (witness_of h rest) go =
      ap (go_on (witnesses_from h (k - i - 1)) at (length rest)) (sym p)
      ∙ ap (λ y. one_more y (witnesses_from h (k - i - 1) (at + (length rest - length behind)) behind)) r.is
      ∙ ap (λ m. in_front (witness_of h rest) (witnesses_from h (k - i - 1) m behind)) (sym next-is) in
      let list : map (witness_at h ws) (range_with_len 0 (i + 1)) ≡ map (witness_at h ws) (range_with_len 0 i) ++ witness_of h rest ∷ [] =
      map-range_with_len_more (witness_at h ws) 0 i i (omega arith) ∙ ap (λ y. map (witness_at h ws) (range_with_len 0 i) ++ y ∷ []) here in
      let left : k - i - 1 ≡ k - (i + 1) = omega arith in
      record {
        at_is = omega (arith, w.at_is, next-is, long-behind, size);
        rest_is = after;
        inside = omega (arith, long_rest, long-behind, size);
        whole = turned ∙ ap (prepend (map (witness_at h ws) (range_with_len 0 i))) one ∙ prepend_more (map (witness_at h ws) (range_with_len 0 i)) (witness_of h rest) go
            ∙ ap (λ l. prepend l go) (sym list) ∙ ap (λ m. prepend (map (witness_at h ws) (range_with_len 0 (i + 1))) (witnesses_from h m next behind)) left;
        places = below_more (λ j. (witness_at h ws j).place < width h) i w.places (subst (λ y. y.place < width h) (sym here) r.place_low);
        axes = below_more (λ j. (witness_at h ws j).axis ≤ 1) i w.axes (subst (λ y. y.axis ≤ 1) (sym here) r.axis_low);
      }

module _ (h : Fields) (k start : ℕ) (ws : List ℕ) (i at : ℕ) (rest : List ℕ) (w : Walked h k start ws i at rest) (done : k ≤ i) (full : i ≤ k) where
  last : witnesses_from h k start ws ≡ prepend (map (witness_at h ws) (range_with_len 0 i)) (at_last h at rest)
  unfolding witnesses_from
  last = let z : k - i ≡ 0 = omega arith in w.whole ∙ ap (λ m. prepend (map (witness_at h ws) (range_with_len 0 i)) (witnesses_from h m at rest)) z

  -- nothing is left
  pub walk_end : k ≡ h.k → true ≡ eqb (length rest) 0 → (Ok (map (witness_at h ws) (range_with_len 0 h.k)) ≡ witnesses_from h k start ws) × WitnessRecords h ws
  unfolding at_last
  walk_end k-is e =
      let n : length rest ≡ 0 = eqb-true (length rest) 0 (sym e) in
      let i-is : i ≡ h.k = omega (arith, k-is) in
      let a : at_last h at rest ≡ Ok [] = cond-true (eqb (length rest) 0) (Ok []) (left_over (reads_at h due.Nothing at rest)) (sym e) in
      let long : length ws ≡ i * witness_len h = omega (arith, ap length w.rest_is, length-drop (i * witness_len h) ws, w.inside, n) in (
        ap (λ m. Ok (map (witness_at h ws) (range_with_len 0 m))) (sym i-is) ∙ ap Ok (sym (append-nil (map (witness_at h ws) (range_with_len 0 i)))) ∙ sym (last ∙ ap (prepend (map (witness_at h ws) (range_with_len 0 i))) a),
        record {
          long = long ∙ ap (λ m. m * witness_len h) i-is;
          places = λ j l. w.places j (omega arith);
          axes = λ j l. w.axes j (omega arith);
        },
      )

  -- something is left
  pub walk_over : false ≡ eqb (length rest) 0 → (e : Refused) → Err e ≡ reads_at h due.Nothing at rest → Err e ≡ witnesses_from h k start ws
  unfolding at_last
  walk_over f e p =
      let a : at_last h at rest ≡ left_over (reads_at h due.Nothing at rest) = cond-false (eqb (length rest) 0) (Ok []) (left_over (reads_at h due.Nothing at rest)) (sym f) in
      sym (last ∙ ap (prepend (map (witness_at h ws) (range_with_len 0 i))) (a ∙ ap left_over (sym p)))
