use Rattle.std.proofs.Common.{◌≡◌, ℕ, ◌≤◌, List, length, take, Some, None, Ok, Option, sym, refl, ap, ◌∙◌, arith}
use Rattle.erasure.proofs.Bounds.{size_most}
use Rattle.header.specs.Fields.{Fields, fields_of}
use Rattle.header.proofs.Measures.{depth_most}
use Rattle.evidence.specs.Evidence.{Evidence}
use Rattle.store.specs.Meaning.{Meaning}
use Rattle.store.specs.Showing.{asked}
use Rattle.store.proofs.Asking.{admitted, shows_this, untouched_free}
use Rattle.cache.specs.Keeping.{Answer, checked, answer_in, places, pushed, kept_for}
use Rattle.cache.proofs.Keepers.{kept_held, places_pushed}
use Rattle.cache.proofs.Answering.{count_hit, count_miss, kept_on_hit, kept_on_none, kept_on_some, unasked_hit, unasked_miss, answer_none, answer_some, order_same, order_pushed}
use Rattle.cache.proofs.cache.CacheStore.show.Goals as goal

-- a question that was admitted has buffers that a kept answer fills
fits : (m : Meaning) (r c n p : ℕ) → asked m.k m.s r c n p ≡ Ok tt → m.s ≤ 512 → (n ≤ 512) × (p ≤ 416)
fits m r c n p free most =
    let a = admitted m.k m.s r c n p free in
    let d = depth_most m.k in
    (omega arith, omega arith)

pub write-requires : goal.write-requires
write-requires g c =
    let a = c.args in
    let m : Meaning = g.S.Store.meaning a.self.now.below in
    let free : asked m.k m.s a.cell.row a.cell.col (length a.share.now) (length a.path.now) ≡ Ok tt =
    sym c.in_ok-admit.ensures in
    fits m _ _ _ _ free (size_most m.s (g.S.Store.bounded a.self.now.below).1)

pub ask_below-brought-requires : goal.ask_below-brought-requires
ask_below-brought-requires g c =
    let a = c.args in
    let m : Meaning = g.S.Store.meaning a.self.now.below in
    let free : asked m.k m.s a.cell.row a.cell.col (length a.share.now) (length a.path.now) ≡ Ok tt =
    sym c.in_ok-admit.ensures in
    record { room = fits m _ _ _ _ free (size_most m.s (g.S.Store.bounded a.self.now.below).1); free = free }

pub write-requires-2 : goal.write-requires-2
write-requires-2 g c =
    let a = c.args in
    let m : Meaning = g.S.Store.meaning a.self.now.below in
    let free : asked m.k m.s a.cell.row a.cell.col (length a.share.now) (length a.path.now) ≡ Ok tt =
    sym c.in_ok-admit.ensures in
    fits m _ _ _ _ free (size_most m.s (g.S.Store.bounded a.self.now.below).1)

pub returns-in-Some : goal.returns-in-Some
returns-in-Some g c =
    let a = c.args in
    let m : Meaning = g.S.Store.meaning a.self.now.below in
    let h : Fields = fields_of a.self.now.header in
    let all : Meaning = checked g.H.Hash.meaning g.H.Hash.KIND h m in
    let r = a.cell.row in
    let col = a.cell.col in
    let v = c.in-Some.v in
    let e : Evidence = (answer_in m.k m.s v).evidence in
    let free : asked m.k m.s r col (length a.share.now) (length a.path.now) ≡ Ok tt =
    sym c.in_ok-admit.ensures in
    let t = admitted m.k m.s r col _ _ free in
    let hit : kept_for r col (places m.k m.s a.self.now.kept) ≡ Some e = sym (c.in-Some.ensures m.k m.s) in
    record {
      shown = λ o.
          shows_this all r col a.share.now a.path.now free (Some e) (kept_held all r col (places m.k m.s a.self.now.kept) e hit o.1) _ _ _ _ _
          refl (c.write.ensures.share ∙ ap (λ n. take n v.share) t.share) (c.write.ensures.path ∙ ap (λ n. take n v.path) t.path) refl o;
      refused = untouched_free _ _ _ free;
      counted = count_hit _ _ free e _ hit;
      kept = λ o. kept_on_hit _ _ free r col (all.at r col) (places m.k m.s a.self.now.kept) e hit;
      unasked = unasked_hit _ e _ hit;
    }

pub returns-in_default-brought : goal.returns-in_default-brought
returns-in_default-brought g c =
    let a = c.args in
    let f = g.H.Hash.meaning in
    let kind = g.H.Hash.KIND in
    let m : Meaning = g.S.Store.meaning a.self.now.below in
    let m' : Meaning = g.S.Store.meaning c.ask_below-brought.new.below in
    let h : Fields = fields_of a.self.now.header in
    let all : Meaning = checked f kind h m in
    let r = a.cell.row in
    let col = a.cell.col in
    let free : asked m.k m.s r col (length a.share.now) (length a.path.now) ≡ Ok tt =
    sym c.in_ok-admit.ensures in
    let ks : List (Option Answer) = places m.k m.s a.self.now.kept in
    let miss : kept_for r col ks ≡ None = sym (c.in_default.ensures m.k m.s) in
    record {
      shown = λ o.
          let b = c.in_default-brought.ensures o.0 in
          shows_this all r col a.share.now a.path.now free None (answer_none r col (all.at r col) b.is) (checked f kind h m') _ _ _ _ refl refl refl (ap (checked f kind h) b.same)
          (order_same f kind h m m' b.same a.self.now.kept _ b.kept o.1);
      refused = untouched_free _ _ _ free;
      counted = count_miss _ _ free a.self.now.count _ miss c.one_more.ensures;
      kept = λ o. kept_on_none _ _ free r col (all.at r col) ks miss (answer_none r col (all.at r col) (c.in_default-brought.ensures o.0).is);
      unasked = unasked_miss _ _ _ miss;
    }

pub returns : goal.returns
returns g c =
    let a = c.args in
    let f = g.H.Hash.meaning in
    let kind = g.H.Hash.KIND in
    let m : Meaning = g.S.Store.meaning a.self.now.below in
    let m' : Meaning = g.S.Store.meaning c.ask_below-brought.new.below in
    let h : Fields = fields_of a.self.now.header in
    let all : Meaning = checked f kind h m in
    let r = a.cell.row in
    let col = a.cell.col in
    let free : asked m.k m.s r col (length a.share.now) (length a.path.now) ≡ Ok tt =
    sym c.in_ok-admit.ensures in
    let ks : List (Option Answer) = places m.k m.s a.self.now.kept in
    let miss : kept_for r col ks ≡ None = sym (c.in_default.ensures m.k m.s) in
    let v = c.in-Some-brought.v in
    let e : Evidence = (answer_in m.k m.s v).evidence in
    let t = admitted m.k m.s r col _ _ free in
    record {
      shown = λ o.
          let b = c.in-Some-brought.ensures o.0 in
          let x = answer_some r col (all.at r col) (answer_in m.k m.s v) b.is in
          shows_this all r col a.share.now a.path.now free (Some e) x.0 (checked f kind h m') _ _ _ _
          refl (c.write-2.ensures.share ∙ ap (λ n. take n v.share) t.share) (c.write-2.ensures.path ∙ ap (λ n. take n v.path) t.path) (ap (checked f kind h) b.same)
          (order_pushed f kind h m m' b.same a.self.now.kept _ b.kept c.keep.new.slots v c.keep.ensures
          (ap (λ (y : Answer). all.at y.row y.col) x.1 ∙ x.0) o.1);
      refused = untouched_free _ _ _ free;
      counted = count_miss _ _ free a.self.now.count _ miss c.one_more.ensures;
      kept = λ o.
          let x = answer_some r col (all.at r col) (answer_in m.k m.s v) (c.in-Some-brought.ensures o.0).is in
          ap (places m.k m.s) c.keep.ensures
          ∙ places_pushed m.k m.s a.self.now.kept v
          ∙ ap (λ (y : Answer). pushed ks (Some y)) x.1
          ∙ kept_on_some _ _ free r col (all.at r col) ks e miss x.0;
      unasked = unasked_miss _ _ _ miss;
    }
