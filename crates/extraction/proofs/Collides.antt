-- The two climbs of an extraction start from different strings and end alike.
use Rattle.std.proofs.Common.{◌≡◌, ℕ, zero, suc, ◌+◌, ◌*◌, ◌^◌, ◌<◌, true, false, ◌&&◌, List, map, length, get_or, take, drop, sym, refl, ap, ◌∙◌, subst, mul_comm, zero-add, arith}
use Rattle.std.specs.List.{range_with_len}
use Rattle.std.specs.Str.{bytes_eq}
use Rattle.std.proofs.lemmas.Slice.Eq.{bytes_eq-Decides}
use Rattle.std.proofs.lemmas.List.{ext_get_or}
use Rattle.std.proofs.lemmas.Bool.{and_parts, both_ways}
use Rattle.octets.specs.Shares.{share}
use Rattle.octets.proofs.Shares.{share_byte_lem, share_length}
use Rattle.hash.specs.Digests.{digest_len}
use Rattle.merkle.specs.Tree.{sides}
use Rattle.merkle.specs.Climb.{plain_rule, alone, leaf_of, rungs, slot, from_leaf, climb}
use Rattle.merkle.proofs.Bound.{same_true}
use Rattle.merkle.proofs.Climbing.{climbs_own}
use Rattle.merkle.proofs.Layouts.{layouts_stand}
use Rattle.merkle.proofs.Steps.{climb_more}
use Rattle.codes.specs.Code.{Table}
use Rattle.codes.specs.Words.{Through}
use Rattle.erasure.specs.Limits.{ok_width}
use Rattle.header.specs.declared.cell.Axis.{Axis}
use Rattle.header.specs.Fields.{Fields}
use Rattle.header.specs.Sizes.{width, depth, square_len, line_count, line_number}
use Rattle.header.proofs.Measures.{depth_above}
use Rattle.extension.specs.Lines.{line_shares}
use Rattle.extension.proofs.Lines.{row_below, col_below, line_share}
use Rattle.commitment.specs.Values.{value_leaf, value_tree, value_root}
use Rattle.commitment.specs.Roots.{roots_of, data_root_of}
use Rattle.evidence.specs.Evidence.{axis_by, evidence_fits, evidence_end, verifies}
use Rattle.evidence.proofs.Proving.{own_verifies}
use Rattle.square.specs.Extend.{Extended}
use Rattle.wire.specs.Values.{Claim, Witness}
use Rattle.fraudproof.specs.Proof.{witness_len, witness_at}
use Rattle.fraud.specs.Accepted.{claim_end, is_committed, witness_row, witness_col, vouches, places_of, shares_of, Every}
use Rattle.fraud.proofs.Cases.{shares_length, shares_byte, place_at}
use Rattle.fraud.proofs.Words.{witness_share_long}
use Rattle.extraction.specs.Extracted.{agrees, own_share, own_path, data_path, own_claim}

same_is : (x y : List ℕ) → bytes_eq x y ≡ true → x ≡ y
same_is x y e = (bytes_eq-Decides x y).0 e

-- where an evidence that verifies ends
verified_end : (f : List ℕ → List ℕ) (h : Fields) (r c : ℕ) (axis : Axis) (share path : List ℕ) → verifies f h r c axis share path ≡ true
    → evidence_end f h axis r c share path ≡ h.data_root
verified_end f h r c axis share path v =
    let a = and_parts _ (evidence_fits h (length share) (length path) && bytes_eq (evidence_end f h axis r c share path) h.data_root) v in
    let b = and_parts (evidence_fits h (length share) (length path)) (bytes_eq (evidence_end f h axis r c share path) h.data_root) a.1 in
    same_is _ _ b.1

-- what holds of every witness holds of each by its number
every_from : (P : Witness → Type 0) (g : ℕ → Witness) (a n : ℕ) → Every P (map g (range_with_len a n)) → (j : ℕ) → j < n → P (g (a + j))
unfolding Every
every_from P g a zero h j l = absurd (omega arith)
every_from P g a (suc n) h zero l = subst (λ i. P (g i)) (let e : a ≡ a + 0 = omega arith in e) h.0
every_from P g a (suc n) h (suc j) l = subst (λ i. P (g i)) (let e : a + 1 + j ≡ a + suc j = omega arith in e) (every_from P g (a + 1) n h.1 j (omega arith))

every_at : (P : Witness → Type 0) (g : ℕ → Witness) (n : ℕ) → Every P (map g (range_with_len 0 n)) → (j : ℕ) → j < n → P (g j)
every_at P g n h j l = subst (λ i. P (g i)) (zero-add j) (every_from P g 0 n h j l)

module _ (f : List ℕ → List ℕ) (sized : (m : List ℕ) → length (f m) ≡ digest_len) (h : Fields) (wide : ok_width h.k ≡ true) (sq : List ℕ)
    (long : length sq ≡ square_len h) (own : h.data_root ≡ data_root_of f h (roots_of f h sq)) where
  -- ---- at a witness

  module _ (c : Claim) (w : Witness) (i-low : c.index < width h) (p-low : w.place < width h) where
    pub witness_ends : vouches f h c w ≡ true
        → evidence_end f h (axis_by w.axis) (witness_row c w) (witness_col c w) w.share w.path
        ≡ evidence_end f h (axis_by w.axis) (witness_row c w) (witness_col c w) (own_share h sq c w) (own_path f h sq c w)
    witness_ends t =
        let r = row_below (axis_by c.axis) (width h) c.index w.place i-low p-low in
        let q = col_below (axis_by c.axis) (width h) c.index w.place i-low p-low in
        verified_end f h (witness_row c w) (witness_col c w) (axis_by w.axis) w.share w.path t
        ∙ sym (verified_end f h (witness_row c w) (witness_col c w) (axis_by w.axis) (own_share h sq c w) (own_path f h sq c w)
        (own_verifies f sized h wide sq (roots_of f h sq) (axis_by w.axis) (witness_row c w) (witness_col c w) r q refl long own))

    pub witness_differs : agrees h sq c w ≡ false → w.share ≡ own_share h sq c w → ⊥
    witness_differs d e = both_ways (agrees h sq c w) d (same_true w.share (own_share h sq c w) e)

  -- ---- at the claimed root

  -- the square's own root of a line, by its own path, ends at the data root
  own_end : (n : ℕ) (roots : List ℕ) → n < line_count h → climb plain_rule f (from_leaf (depth h + 1) n (data_path f h roots n)) (slot n roots) ≡ data_root_of f h roots
  unfolding data_path value_tree value_root share
  own_end n roots l =
      let d = depth h + 1 in
      let leaf = value_leaf f digest_len roots in
      let within : n < 2 ^ d = omega (arith, depth_above h.k wide) in
      let laid = layouts_stand f sized d leaf (λ i b. sized _) in
      climb_more plain_rule f alone _ (slot n roots)
      ∙ ap (λ ys. climb plain_rule f (rungs (sides d n) ys) (leaf_of plain_rule f (slot n roots))) (laid.paths n within)
      ∙ ap (climb plain_rule f (rungs (sides d n) _)) (ap (λ i. leaf_of plain_rule f (take digest_len (drop i roots))) (mul_comm digest_len n))
      ∙ climbs_own plain_rule f leaf d n within

  pub claim_ends : (c : Claim) → line_number h (axis_by c.axis) c.index < line_count h → is_committed f h c ≡ true → claim_end f h c ≡ claim_end f h (own_claim f h sq c)
  claim_ends c l t = same_is _ _ t ∙ own ∙ sym (own_end (line_number h (axis_by c.axis) c.index) (roots_of f h sq) l)

  -- where every witness has the square's share, the square's line is the codeword through them, so its root is not the claimed one
  module _ (T : Table) (d : List ℕ) (ext : Extended f T h d sq (roots_of f h sq)) (c : Claim) (ws : List ℕ) (recs : length ws ≡ h.k * witness_len h)
      (i-low : c.index < width h) (lows : (i : ℕ) → i < h.k → (witness_at h ws i).place < width h)
      (all : Every (λ w. agrees h sq c w ≡ true) (map (witness_at h ws) (range_with_len 0 h.k))) where
    abbrev line : List ℕ
    line = line_shares h.k h.s (axis_by c.axis) c.index sq

    abbrev got : List Witness
    got = map (witness_at h ws) (range_with_len 0 h.k)

    -- share j of the witnesses
    got_share : (j : ℕ) → j < h.k → share h.s j (shares_of got) ≡ (witness_at h ws j).share
    got_share j l =
        let size = witness_share_long h ws recs j l in
        let sum = shares_length (witness_at h ws) h.s 0 h.k (λ i b. witness_share_long h ws recs i (omega arith)) in
        let part = share_length h.s j h.k (shares_of got) sum l in
        ext_get_or 0 (share h.s j (shares_of got)) (witness_at h ws j).share (part ∙ sym size)
        (λ b lb.
        let s-low : b < h.s = omega arith in
        share_byte_lem h.s j b (shares_of got) s-low
        ∙ shares_byte (witness_at h ws) h.s 0 h.k (λ i b. witness_share_long h ws recs i (omega arith)) j b l s-low
        ∙ ap (λ i. get_or (witness_at h ws i).share b 0) (zero-add j))

    line_through : Through T h.k h.s (places_of got) (shares_of got) line
    line_through =
        record {
          word = ext.coded (axis_by c.axis) c.index i-low;
          given = λ j l.
              let w = witness_at h ws j in
              ap (λ p. share h.s p line) (place_at (witness_at h ws) h.k j l)
              ∙ line_share h.k h.s (axis_by c.axis) c.index sq w.place long i-low (lows j l)
              ∙ sym (same_is w.share (own_share h sq c w) (every_at (λ w. agrees h sq c w ≡ true) (witness_at h ws) h.k all j l))
              ∙ sym (got_share j l);
        }

    pub claim_differs : ((vs : List ℕ) → Through T h.k h.s (places_of got) (shares_of got) vs → value_root f (depth h) h.s vs ≡ c.root → ⊥)
        → c.root ≡ (own_claim f h sq c).root → ⊥
    claim_differs other e = other line line_through (sym (e ∙ ext.rooted (axis_by c.axis) c.index i-low))
