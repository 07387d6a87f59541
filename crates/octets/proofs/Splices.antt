-- Parts written over a buffer.
use Rattle.std.proofs.Common.{◌≡◌, ℕ, ◌+◌, ◌≤◌, List, ◌++◌, length, take, drop, sym, refl, ap, ◌∙◌, arith, length-append, length-drop}
use borrow.Rule.Slice.PartMut.{put_mid}
use Rattle.std.proofs.lemmas.List.{append_assoc, take_all, length-take-le}
use Rattle.std.proofs.lemmas.Slice.{put_mid-paste, take-put_mid_below, take-put_mid, drop-put_mid}
use Rattle.std.proofs.lemmas.Bool.{le-leb, cond-true}
use Rattle.octets.specs.Splice.{room_at, over, spliced}

-- what the code writes is that
pub over_is : (at k : ℕ) (out ys part : List ℕ) → ys ≡ part → length part ≡ k → put_mid at k out ys ≡ over at part out
over_is at k out ys part e h =
    put_mid-paste at k out ys part (length part) e h refl
    ∙ append_assoc (take at out) (take (length part) part) (drop (at + length part) out)
    ∙ ap (λ z. take at out ++ (z ++ drop (at + length part) out)) (take_all (length part) part (omega arith))

-- a part that fits is written
pub spliced_in : (at : ℕ) (part out : List ℕ) → at + length part ≤ length out → spliced at part out ≡ over at part out
spliced_in at part out h = cond-true (room_at at (length part) (length out)) _ _ (le-leb (at + length part) (length out) h)

-- its length stays, and so do the bytes before and behind the part
module _ (at : ℕ) (part out : List ℕ) (fits : at + length part ≤ length out) where
  whole : put_mid at (length part) out part ≡ over at part out
  whole = over_is at (length part) out part part refl refl

  pub length_over : length (over at part out) ≡ length out
  length_over = simp (length-append, length-take-le at out (omega arith), length-drop) (omega arith)

  pub take_over_below : (n : ℕ) → n ≤ at → take n (over at part out) ≡ take n out
  take_over_below n h = ap (take n) (sym whole) ∙ take-put_mid_below at (length part) out part n h (omega arith)

  pub take_over : (n : ℕ) → n ≡ at + length part → take n (over at part out) ≡ take at out ++ part
  take_over n h = ap (take n) (sym whole) ∙ take-put_mid at (length part) out part n h (omega arith)

  pub drop_over : (n : ℕ) → at + length part ≤ n → drop n (over at part out) ≡ drop n out
  drop_over n h = ap (drop n) (sym whole) ∙ drop-put_mid at (length part) out part n h (omega arith) refl
