-- What the cache shows, keeps and counts.
use Rattle.std.proofs.Common.{◌≡◌, ℕ, ◌+◌, ◌-◌, ◌^◌, min, List, Some, None, Ok, Option, Result, sym, refl, ap, ◌∙◌, subst, ap₂, arith}
use Rattle.octets.specs.Outcome.{Refused}
use Rattle.header.specs.Fields.{Fields}
use Rattle.evidence.specs.Evidence.{Evidence}
use Rattle.store.specs.Meaning.{Meaning}
use Rattle.cache.specs.declared.kept.Kept.{Kept}
use Rattle.cache.specs.Keeping.{Answer, Keeps, CacheOrder, Unasked, checked, answer_in, answer_at, places, pushed, kept_after, count_after}
use Rattle.cache.proofs.Keepers.{keeps_pushed, places_pushed}

-- ---- a question q that is not refused

module _ (q : Result (Unit {0}) Refused) (hit : Option Evidence) (free : q ≡ Ok tt) where
  pub count_hit : (e : Evidence) (n : ℕ) → hit ≡ Some e → n ≡ count_after q hit n
  count_hit e n h = sym (ap₂ (λ x y. count_after x y n) free h)

  pub count_miss : (n n' : ℕ) → hit ≡ None → n' ≡ min (n + 1) (2 ^ 64 - 1) → n' ≡ count_after q hit n
  count_miss n n' h e = e ∙ sym (ap₂ (λ x y. count_after x y n) free h)

  module _ (r c : ℕ) (v : Option Evidence) (ks : List (Option Answer)) where
    pub kept_on_hit : (e : Evidence) → hit ≡ Some e → ks ≡ kept_after q hit r c v ks
    kept_on_hit e h = sym (ap₂ (λ x y. kept_after x y r c v ks) free h)

    pub kept_on_none : hit ≡ None → v ≡ None → ks ≡ kept_after q hit r c v ks
    kept_on_none h is = sym (ap₂ (λ x y. kept_after x y r c v ks) free h ∙ ap (λ w. kept_after (Ok tt) None r c w ks) is)

    pub kept_on_some : (e : Evidence) → hit ≡ None → v ≡ Some e → pushed ks (Some (record { row = r; col = c; evidence = e })) ≡ kept_after q hit r c v ks
    kept_on_some e h is = sym (ap₂ (λ x y. kept_after x y r c v ks) free h ∙ ap (λ w. kept_after (Ok tt) None r c w ks) is)

pub unasked_hit : {A : Type 0} (hit : Option Evidence) (e : Evidence) (x : A) → hit ≡ Some e → Unasked hit x x
unasked_hit hit e x h = subst (λ (y : Option Evidence). Unasked y x x) (sym h) refl

pub unasked_miss : {A : Type 0} (hit : Option Evidence) (x y : A) → hit ≡ None → Unasked hit x y
unasked_miss hit x y h = subst (λ (z : Option Evidence). Unasked z x y) (sym h) tt

-- ---- what a question that went below brought

pub answer_none : (r c : ℕ) (v : Option Evidence) → None ≡ answer_at r c v → v ≡ None
answer_none r c None e = refl
answer_none r c (Some x) e = let z : ◌≡◌ {A = ℕ} 0 1 = cc in absurd (omega arith)

pub answer_some : (r c : ℕ) (v : Option Evidence) (a : Answer) → Some a ≡ answer_at r c v → (v ≡ Some a.evidence) × (a ≡ record { row = r; col = c; evidence = a.evidence })
answer_some r c None a e = let z : ◌≡◌ {A = ℕ} 0 1 = cc in absurd (omega arith)
answer_some r c (Some x) a e =
    let s : a ≡ record { row = r; col = c; evidence = x } = cc in
    (ap (λ y. Some y.evidence) (sym s), s ∙ ap (λ y. record { row = r; col = c; evidence = y.evidence }) (sym s))

module _ (f : List ℕ → List ℕ) (kind : ℕ) (h : Fields) (m m' : Meaning) (same : m' ≡ m) (before : List (Option Kept)) (order : Type 0) (o : order) where
  -- the rule of order where nothing new is kept
  pub order_same : Keeps (checked f kind h m) (places m.k m.s before) → CacheOrder order (checked f kind h m') (places m'.k m'.s before)
  order_same keeps = (o, subst (λ (n : Meaning). Keeps (checked f kind h n) (places n.k n.s before)) (sym same) keeps)

  -- and where an answer comes in
  pub order_pushed : (after : List (Option Kept)) (v : Kept) → after ≡ pushed before (Some v)
      → (checked f kind h m).at (answer_in m.k m.s v).row (answer_in m.k m.s v).col ≡ Some (answer_in m.k m.s v).evidence
      → Keeps (checked f kind h m) (places m.k m.s before) → CacheOrder order (checked f kind h m') (places m'.k m'.s after)
  order_pushed after v is held keeps = (
    o,
    subst (λ (n : Meaning). Keeps (checked f kind h n) (places n.k n.s after)) (sym same)
        (subst (λ (ks : List (Option Answer)). Keeps (checked f kind h m) ks) (sym (ap (places m.k m.s) is ∙ places_pushed m.k m.s before v))
        (keeps_pushed (checked f kind h m) (places m.k m.s before) (answer_in m.k m.s v) keeps held)),
  )
