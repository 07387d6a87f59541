-- Records of one size that lie one after the other.
use Rattle.std.proofs.Common.{◌≡◌, ℕ, ◌+◌, ◌-◌, ◌*◌, ◌/◌, ◌%◌, ◌<◌, ◌≤◌, true, ltb, List, length, get_or, take, drop, Some, None, Option, sym, ap, ◌∙◌, div-add-mod', arith}
use Rattle.std.proofs.lemmas.Bool.{lt-ltb, cond-true}
use Rattle.octets.proofs.Shares.{share_inside}
use Rattle.erasure.specs.Limits.{ok_size}
use Rattle.erasure.proofs.Bounds.{size_most}
use Rattle.header.specs.Fields.{Fields}
use Rattle.header.specs.Sizes.{path_len, witness_body_len}
use Rattle.header.proofs.Measures.{depth_most}
use Rattle.wire.specs.Values.{Witness}
use Rattle.fraudproof.specs.Proof.{witness_len, witness_of, witness_at}
use Rattle.fraudproof.specs.Witness.{witness_in}

-- a record of as many as there are lies inside
pub record_inside : (i n size : ℕ) → i < n / size → i * size + size ≤ n
record_inside i n size h =
    let a : i * size + size ≤ n / size * size = share_inside i (n / size) size h in
    let b : n / size * size + n % size ≡ n = div-add-mod' n size in
    omega arith

-- a witness has under a thousand bytes
pub body_most : (h : Fields) → ok_size h.s ≡ true → witness_body_len h ≤ 1000
body_most h z = omega (arith, size_most h.s z, depth_most h.k)

abbrev made : ℕ → ℕ → List ℕ → List ℕ → Witness
made place axis share path = record { place = place; axis = axis; share = share; path = path }

module _ (h : Fields) (r : List ℕ) (w : Witness) where
  -- a witness by its parts
  pub witness_is : (cut size : ℕ) → cut ≡ 9 + h.s → size ≡ witness_len h
      → w.place ≡ get_or r 6 0 + get_or r 7 0 * 256 → w.axis ≡ get_or r 8 0 → w.share ≡ take (cut - 9) (drop 9 r) → w.path ≡ take (size - cut) (drop cut r)
      → w ≡ witness_of h r
  unfolding witness_of
  witness_is cut size e f place axis share path =
      let long : cut - 9 ≡ h.s = omega arith in
      let rest : size - cut ≡ path_len h = omega arith in
      let share' : w.share ≡ take h.s (drop 9 r) = share ∙ ap (λ n. take n (drop 9 r)) long in
      let path' : w.path ≡ take (path_len h) (drop (9 + h.s) r) = path ∙ ap (λ n. take n (drop cut r)) rest ∙ ap (λ n. take (path_len h) (drop n r)) e in
      ap (λ x. made x w.axis w.share w.path) place ∙ ap (λ x. made (get_or r 6 0 + get_or r 7 0 * 256) x w.share w.path) axis
      ∙ ap (λ x. made (get_or r 6 0 + get_or r 7 0 * 256) (get_or r 8 0) x w.path) share'
      ∙ ap (made (get_or r 6 0 + get_or r 7 0 * 256) (get_or r 8 0) (take h.s (drop 9 r))) path'

-- witness i is there
pub witness_there : (h : Fields) (ws : List ℕ) (i size : ℕ) (w : Witness) → size ≡ witness_len h → i < length ws / size → w ≡ witness_of h (drop (i * size) ws)
    → ◌≡◌ {A = Option Witness} (Some w) (witness_in h ws i)
witness_there h ws i size w e l is =
    let lt : ltb i (length ws / witness_len h) ≡ true = ap (λ n. ltb i (length ws / n)) (sym e) ∙ lt-ltb i (length ws / size) l in
    let at : w ≡ witness_at h ws i = is ∙ ap (λ n. witness_of h (drop (i * n) ws)) e in
    ap Some at ∙ sym (cond-true (ltb i (length ws / witness_len h)) (Some (witness_at h ws i)) None lt)
