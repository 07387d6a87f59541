-- Where the parts of an image stand.
use Rattle.std.proofs.Common.{◌≡◌, ℕ, ◌+◌, ◌-◌, ◌*◌, ◌<◌, ◌≤◌, Bool, true, false, cond, not, eqb, List, Some, None, Option, length, take, drop, Ok, Err, length-drop, inl, inr, sym, ap, ap₂, ◌∙◌, arith}
use Rattle.std.proofs.lemmas.Nat.{mul-add-lt, mul-le}
use Rattle.std.proofs.lemmas.Bool.{or_cases, eqb-true}
use Rattle.octets.proofs.Shares.{share_inside}
use Rattle.std.proofs.lemmas.List.{length-take-le}
use Rattle.octets.specs.Outcome.{plain}
use Rattle.header.specs.Fields.{Fields, shape, header_outcome}
use Rattle.header.specs.Sizes.{image_len, cell_number, has_cell, number_of}
use Rattle.header.proofs.Made.{made}
use Rattle.store.specs.Meaning.{block}
use Rattle.memory.specs.Images.{image_held, open_outcome}

-- the number of a cell that has one
pub numbered : (h : Fields) (r c n : ℕ) → Some n ≡ number_of h r c → n ≡ cell_number h r c
numbered h r c n e = by_case (has_cell h r c) (cell_number h r c) e
  where
    by_case : (b : Bool) (m : ℕ) → ◌≡◌ {A = Option ℕ} (Some n) (cond b (Some m) None) → n ≡ m
    by_case true m e = cc
    by_case false m e = let z : ◌≡◌ {A = ℕ} 0 1 = cc in absurd (omega arith)

-- the share of cell (r, c) in a square of width w
pub record Spot (w s r c : ℕ) : Type 0 where
  pub row : r * w ≤ 4096
  pub below : r * w + c < w * w
  pub few : w * w ≤ 4096
  pub start : (r * w + c) * s ≤ 2097152
  pub end : (r * w + c) * s + s ≤ w * w * s

pub spot : (w s r c : ℕ) → r < w → c < w → w ≤ 64 → s ≤ 512 → Spot w s r c
spot w s r c hr hc hw hs =
    let b = mul-add-lt r w c w hr hc in
    let f = mul-le w w 64 64 hw hw in
    record {
      row = mul-le r w 64 64 (omega arith) hw;
      below = b;
      few = f;
      start = mul-le (r * w + c) s 4096 512 (omega arith) hs;
      end = share_inside (r * w + c) (w * w) s b;
    }

-- the tree of row r among those of w rows
pub record TreeSpot (w a r : ℕ) : Type 0 where
  pub start : r * a ≤ 260096
  pub end : r * a + a ≤ w * a
  pub most : w * a ≤ 260096

pub tree_spot : (w a r : ℕ) → r < w → w ≤ 64 → a ≤ 4064 → TreeSpot w a r
tree_spot w a r hr hw ha =
    record { start = mul-le r a 64 4064 (omega arith) ha; end = share_inside r w a hr; most = mul-le w a 64 4064 hw ha }

-- an image that is not empty is whole
pub whole_image : (k s n : ℕ) → image_held k s n ≡ true → false ≡ eqb n 0 → n ≡ image_len (block k s)
whole_image k s n held some =
    elim (or_cases (eqb n 0) (eqb n (image_len (block k s))) held) [
      | inl t ↦ let both : false ≡ true = some ∙ t in let z : ◌≡◌ {A = ℕ} 0 1 = cc in absurd (omega arith)
      | inr t ↦ eqb-true n (image_len (block k s)) t
    ]

-- with those that a header was made of only the length counts
pub open_allowed : (k s n : ℕ) (h : Fields) → Ok h ≡ header_outcome (shape k s) → open_outcome k s n ≡ cond (not (eqb n (image_len h))) (Err (plain 3)) (Ok tt)
open_allowed k s n h e =
    let m = made (shape k s) h e in
    ap₂ (λ w z. cond (not w) (Err (plain 1)) (cond (not z) (Err (plain 2)) (cond (not (eqb n (image_len (block k s)))) (Err (plain 3)) (Ok tt)))) m.wide m.sized
    ∙ ap (λ (x : Fields). cond (not (eqb n (image_len x))) (Err (plain 3)) (Ok tt)) (sym m.same)

-- a part of n bytes from place `at` on, as `&image[at..at + n]` reads it
pub part_is : (at n : ℕ) (image : List ℕ) → take (at + n - at) (drop at image) ≡ take n (drop at image)
part_is at n image = let e : at + n - at ≡ n = omega arith in ap (λ (k : ℕ). take k (drop at image)) e

pub part_long : (at n : ℕ) (image : List ℕ) → at + n ≤ length image → length (take (at + n - at) (drop at image)) ≡ n
part_long at n image h = ap length (part_is at n image) ∙ length-take-le n (drop at image) (omega (arith, length-drop at image))
