-- Cells held one by one.
use Rattle.std.proofs.Common.{◌≡◌, ℕ, ◌+◌, ◌*◌, ◌/◌, ◌%◌, ◌<◌, Bool, true, false, List, length, get_or, set, replicate, Some, None, Ok, Option, sym, refl, ap, ◌∙◌, subst, ap₂, inl, inr, mod-lt, div-lt_iff_lt-mul, arith, below_more, ◌≤◌}
use Rattle.std.proofs.lemmas.Nat.{div-mul-add, mod-mul-add, mul-add-lt}
use Rattle.std.proofs.lemmas.List.{get_or-set_same, get_or-set_other, get_or-replicate, get_or_past, length-replicate}
use Rattle.std.proofs.lemmas.Bool.{cases_lt}
use Rattle.std.specs.Int.{from_bool}
use Rattle.std.specs.Option.{is_some}
use Rattle.octets.specs.Shares.{byte_of}
use Rattle.octets.specs.Splice.{spliced}
use borrow.Rule.Slice.PartMut.{put_mid}
use Rattle.octets.proofs.Shares.{buffer_from_bytes, put_more, share_inside}
use Rattle.octets.proofs.Splices.{over_is, spliced_in}
use Rattle.header.specs.declared.cell.Axis.{Axis}
use Rattle.header.specs.Fields.{Fields}
use Rattle.header.specs.Sizes.{width, cell_count, square_len}
use Rattle.evidence.specs.Evidence.{Evidence}
use Rattle.store.specs.Meaning.{Meaning}
use Rattle.store.specs.Showing.{asked}
use Rattle.store.specs.Taking.{taken, brought, in_hand, Takes}
use Rattle.store.specs.Sweeping.{share_byte, mark_of, taken_at, held_square, held_marks, Holds}

pub zeros_byte : (n b : ℕ) → ◌≡◌ {A = ℕ} (get_or (replicate n 0) b 0) 0
zeros_byte n b =
    elim (cases_lt b n) [
      | inl l ↦ get_or-replicate {A = ℕ} n b 0 0 l
      | inr l ↦ get_or_past (replicate n 0) b 0 (omega (arith, length-replicate {A = ℕ} n 0))
    ]

module _ (f : List ℕ → List ℕ) (h : Fields) (m : Meaning) where
  module _ (m' : Meaning) (order : Type 0) (r c : ℕ) (share path share' path' : List ℕ) (free : asked m.k m.s r c (length share) (length path) ≡ Ok tt) where
    pub in_hand_lem : (axis : Option Axis) → Takes f h m m' order r c share path axis share' path' → taken f h m r c ≡ in_hand axis share' path'
    in_hand_lem axis t = sym (t.gives ∙ ap (λ q. brought q (taken f h m r c)) free)

    pub holds_some : (axis : Option Axis) → is_some axis ≡ true → Takes f h m m' order r c share path axis share' path' → Holds f h m m' order r c (is_some axis) share'
    holds_some None some t = let z : ◌≡◌ {A = ℕ} 0 1 = cc in absurd (omega arith)
    holds_some (Some axis) some t = record {
      bytes = λ b. sym (ap (λ v. share_byte v b) (in_hand_lem (Some axis) t));
      held_is = sym (ap is_some (in_hand_lem (Some axis) t));
      same = t.same;
      kept = t.kept;
    }

    pub holds_none : (axis : Option Axis) → is_some axis ≡ false → (n : ℕ) (zeros : List ℕ) → zeros ≡ replicate n 0 → Takes f h m m' order r c share path axis share' path'
        → Holds f h m m' order r c (is_some axis) zeros
    holds_none (Some axis) none n zeros z t = let y : ◌≡◌ {A = ℕ} 0 1 = cc in absurd (omega arith)
    holds_none None none n zeros z t = record {
      bytes = λ b. ap (λ xs. get_or xs b 0) z ∙ zeros_byte n b ∙ sym (ap (λ v. share_byte v b) (in_hand_lem None t));
      held_is = sym (ap is_some (in_hand_lem None t));
      same = t.same;
      kept = t.kept;
    }

  -- the shares and the marks of the cells before i
  abbrev pub Cells : ℕ → List ℕ → Type 0
  Cells i square = (j : ℕ) → j < i → (b : ℕ) → b < h.s → byte_of h.s j b square ≡ share_byte (taken_at f h m j) b

  abbrev pub Marks : ℕ → List ℕ → Type 0
  Marks i marks = (j : ℕ) → j < i → get_or marks j 0 ≡ mark_of (taken_at f h m j)

  pub cells_more : (i at k : ℕ) (square share : List ℕ) → at ≡ i * h.s → k ≡ h.s → Cells i square → length square ≡ square_len h → length share ≡ h.s → i < cell_count h
      → ((b : ℕ) → get_or share b 0 ≡ share_byte (taken_at f h m i) b) → Cells (i + 1) (put_mid at k square share)
  cells_more i at k square share begin size below long full within here =
      subst (λ (n : ℕ). Cells (i + 1) (put_mid n k square share)) (sym begin)
      (put_more h.s i (cell_count h) k square share long within full (λ j b. share_byte (taken_at f h m j) b) below (λ b l. here b))

  -- the same by a splice
  pub cells_spliced : (i : ℕ) (square share square' : List ℕ) → Cells i square → length square ≡ square_len h → length share ≡ h.s → i < cell_count h
      → ((b : ℕ) → get_or share b 0 ≡ share_byte (taken_at f h m i) b) → square' ≡ spliced (i * h.s) share square → Cells (i + 1) square'
  cells_spliced i square share square' below long size within here e =
      let room : i * h.s + h.s ≤ cell_count h * h.s = share_inside i (cell_count h) h.s within in
      let is = e ∙ spliced_in (i * h.s) share square (omega arith) ∙ sym (over_is (i * h.s) h.s square share share refl size) in
      subst (λ (xs : List ℕ). Cells (i + 1) xs) (sym is)
      (put_more h.s i (cell_count h) h.s square share long within size (λ j b. share_byte (taken_at f h m j) b) below (λ b l. here b))

  marked : (v : Option Evidence) → from_bool (is_some v) ≡ mark_of v
  marked None = refl
  marked (Some e) = refl

  pub marks_more : (i mark : ℕ) (marks : List ℕ) (held : Bool) → Marks i marks → i < length marks → mark ≡ from_bool held → held ≡ is_some (taken_at f h m i) → Marks (i + 1) (set marks i mark)
  marks_more i mark marks held below within e is =
      below_more _ _
      (λ j l. get_or-set_other marks i j mark 0 (omega arith) ∙ below j l)
      (get_or-set_same marks i mark 0 within ∙ e ∙ ap from_bool is ∙ marked (taken_at f h m i))

  pub all_cells : (square : List ℕ) → length square ≡ square_len h → Cells (cell_count h) square → square ≡ held_square f h m
  all_cells square long all = buffer_from_bytes (cell_count h) h.s _ square long all

  pub all_marks_lem : (marks : List ℕ) → length marks ≡ cell_count h → Marks (cell_count h) marks → marks ≡ held_marks f h m
  all_marks_lem marks long all =
      buffer_from_bytes (width h) (width h) _ marks long
      (λ r hr c hc.
      all (r * width h + c) (mul-add-lt r (width h) c (width h) hr hc)
      ∙ ap₂ (λ x y. mark_of (taken f h m x y)) (div-mul-add r (width h) c hc) (mod-mul-add r (width h) c hc))

-- the row and the column of a cell's number
pub row_below : (i w : ℕ) → 0 < w → i < w * w → i / w < w
row_below i w some l = (div-lt_iff_lt-mul some).1 l

pub col_below : (i w : ℕ) → 0 < w → i % w < w
col_below i w some = mod-lt i some

-- the same said of a store that means the same, at a cell of a square of the same width
pub moved : (f : List ℕ → List ℕ) (h : Fields) (n m m' : Meaning) (order : Type 0) (i w : ℕ) (held : Bool) (share' : List ℕ) → n ≡ m → w ≡ width h
    → Holds f h n m' order (i / w) (i % w) held share' → Holds f h m m' order (i / width h) (i % width h) held share'
moved f h n m m' order i w held share' e d x =
    subst (λ (v : ℕ). Holds f h m m' order (i / v) (i % v) held share') d (record {
      bytes = λ b. x.bytes b ∙ ap (λ (v : Meaning). share_byte (taken f h v (i / w) (i % w)) b) e;
      held_is = x.held_is ∙ ap (λ (v : Meaning). is_some (taken f h v (i / w) (i % w))) e;
      same = x.same ∙ e;
      kept = x.kept;
    })
