-- A comparison at a witness or at the claimed root, as one comparison of a proof.
use Rattle.std.proofs.Common.{◌≡◌, ℕ, ◌+◌, ◌*◌, ◌<◌, ◌≤◌, true, List, length, Some, None, Option, sym, ap, ◌∙◌, arith, length-drop, length-take}
use Rattle.octets.proofs.Shares.{share_inside}
use Rattle.hash.specs.Digests.{digest_len}
use Rattle.collisions.specs.Finding.{Finds, found_len, put_one, put_other}
use Rattle.erasure.specs.Limits.{ok_width}
use Rattle.header.specs.declared.cell.Axis.{Axis}
use Rattle.header.specs.declared.cell.Axis.TheVariants.{Row, Column}
use Rattle.header.specs.Fields.{Fields}
use Rattle.header.specs.Sizes.{width, square_len, path_len, line_count, line_number}
use Rattle.evidence.specs.Evidence.{axis_by, evidence_rungs}
use Rattle.wire.specs.Values.{Witness}
use Rattle.fraudproof.specs.Proof.{witness_len, witness_of, witness_at, case_of}
use Rattle.fraudproof.specs.Form.{Formed}
use Rattle.fraudproof.specs.declared.proof.Proof.{Proof}
use Rattle.fraud.specs.Accepted.{claim_rungs, witness_row, witness_col, vouches, Every}
use Rattle.fraud.proofs.Words.{witness_share_long}
use Rattle.extraction.specs.Extracted.{Sound, agrees, first_against, own_share, own_path, own_claim, at_witness, at_claim, at_first, extracted, Compares}
use Rattle.extraction.proofs.Against.{none_against, against_is, every_made}
use Rattle.extraction.proofs.Collides.{witness_ends, witness_differs, claim_ends, claim_differs}

pub line_low : (h : Fields) (axis : Axis) (i : ℕ) → i < width h → line_number h axis i < line_count h
line_low h Row i l = omega arith
line_low h Column i l = omega arith

witness_path_long : (h : Fields) (ws : List ℕ) → length ws ≡ h.k * witness_len h → (i : ℕ) → i < h.k → length (witness_at h ws i).path ≡ path_len h
unfolding witness_of
witness_path_long h ws long i l =
    let a : i * witness_len h + witness_len h ≤ h.k * witness_len h = share_inside i h.k (witness_len h) l in
    simp (length-take, length-drop) (omega arith)

module _ (h : Fields) (p : Proof) (formed : Formed h p) where
  pub all_sound : Every (Sound h) (case_of h p).witnesses
  all_sound =
      every_made (Sound h) (witness_at h p.witnesses.now) h.k (λ i l. record {
        place = formed.places_low i l;
        share = witness_share_long h p.witnesses.now formed.witnesses_long i l;
        path = witness_path_long h p.witnesses.now formed.witnesses_long i l;
      })

  module _ (sq : List ℕ) (w : Witness) (first : first_against (agrees h sq (case_of h p).claim) (case_of h p).witnesses ≡ Some w) where
    pub sound_witness : Sound h w
    sound_witness = (against_is (agrees h sq (case_of h p).claim) (Sound h) (case_of h p).witnesses w all_sound first).0

    pub compares_witness : (f : List ℕ → List ℕ) → ((m : List ℕ) → length (f m) ≡ digest_len) → ok_width h.k ≡ true → length sq ≡ square_len h
        → (r : Option ℕ) (x y x' y' : List ℕ)
        → Finds f (evidence_rungs h (axis_by w.axis) (witness_row (case_of h p).claim w) (witness_col (case_of h p).claim w) w.path)
        (evidence_rungs h (axis_by w.axis) (witness_row (case_of h p).claim w) (witness_col (case_of h p).claim w) (own_path f h sq (case_of h p).claim w))
        w.share (own_share h sq (case_of h p).claim w) r x y x' y'
        → Compares f h sq (case_of h p) r x y x' y'
    compares_witness f sized wide long r x y x' y' finds =
        let c = (case_of h p).claim in
        let is : extracted f h sq (case_of h p) ≡ at_witness f h sq c w = ap (at_first (at_witness f h sq c) (at_claim f h sq c)) first in
        record {
          answer = finds.answer ∙ ap found_len (sym is);
          one = finds.one ∙ ap (λ o. put_one o x) (sym is);
          other = finds.other ∙ ap (λ o. put_other o y) (sym is);
          in_hand = finds.in_hand;
          meets = λ T d ext own condemns.
              let both = against_is (agrees h sq c) (λ v. vouches f h c v ≡ true) (case_of h p).witnesses w condemns.verified first in
              finds.meets (witness_differs f sized h wide sq long own c w formed.index_low sound_witness.place both.1)
              (witness_ends f sized h wide sq long own c w formed.index_low sound_witness.place both.0);
        }

  pub compares_claim : (f : List ℕ → List ℕ) → ((m : List ℕ) → length (f m) ≡ digest_len) → ok_width h.k ≡ true
      → (sq : List ℕ) → length sq ≡ square_len h → first_against (agrees h sq (case_of h p).claim) (case_of h p).witnesses ≡ None
      → (r : Option ℕ) (x y x' y' : List ℕ)
      → Finds f (claim_rungs h (case_of h p).claim) (claim_rungs h (own_claim f h sq (case_of h p).claim)) p.root.now (own_claim f h sq (case_of h p).claim).root r x y x' y'
      → Compares f h sq (case_of h p) r x y x' y'
  compares_claim f sized wide sq long none r x y x' y' finds =
      let c = (case_of h p).claim in
      let is : extracted f h sq (case_of h p) ≡ at_claim f h sq c = ap (at_first (at_witness f h sq c) (at_claim f h sq c)) none in
      record {
        answer = finds.answer ∙ ap found_len (sym is);
        one = finds.one ∙ ap (λ o. put_one o x) (sym is);
        other = finds.other ∙ ap (λ o. put_other o y) (sym is);
        in_hand = finds.in_hand;
        meets = λ T d ext own condemns.
            finds.meets
            (claim_differs f sized h wide sq long own T d ext c p.witnesses.now formed.witnesses_long formed.index_low formed.places_low
            (none_against (agrees h sq c) (case_of h p).witnesses none) condemns.other)
            (claim_ends f sized h wide sq long own c (line_low h (axis_by p.axis) p.index formed.index_low) condemns.committed);
      }
