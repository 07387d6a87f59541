use Rattle.std.proofs.Common.{◌≡◌, ℕ, ◌+◌, ◌-◌, ◌<◌, ◌≤◌, ◌≢◌, map, length, get_or, set, inl, sym, ap, ◌∙◌, subst, arith, get_or-set_other, get_or-set_same, below_more}
use Rattle.std.specs.List.{range_with_len}
use Rattle.std.proofs.lemmas.List.FromFn.{length-map-range_with_len}
use Rattle.erasure.proofs.Bounds.{width_most}
use Rattle.fraudproof.specs.Left.{witnesses_left}
use Rattle.fraudproof.specs.Proof.{witness_at}
use Rattle.fraudproof.specs.Witness.{values_of}
use Rattle.fraud.specs.Charge.{block_of}
use Rattle.fraud.proofs.Cases.{left_turn, left_end, places_are}
use Rattle.fraud.proofs.charge.Charge.put_places.Goals as goal

pub loop-i-init-derived : goal.loop-i-init-derived
loop-i-init-derived c =
    let h = block_of c.args.self.now in
    let source = c.enumerate-i-items.ensures.source in
    let n = ap (λ s. length (witnesses_left s)) source ∙ ap length c.witnesses.ensures ∙ length-map-range_with_len (witness_at h c.args.self.now.proof.witnesses.now) 0 h.k in
    let most = width_most h.k c.args.self.now.header.now.width in
    let count = c.enumerate-i-items.ensures.count in
    rw c.into_iter-i-iterator.ensures.into_iter_gives ((tt, tt, inl (omega (arith, n, count))), tt)

pub loop-i-preserved : goal.loop-i-preserved
loop-i-preserved c =
    let g = witness_at (block_of c.args.self.now) c.args.self.now.proof.witnesses.now in
    let steps = c.in-Some.ensures.steps in
    let t = left_turn g c.loop-i.i-iterator.count c.args.self.now.header.now.k (values_of c.in-Some.witness) (witnesses_left c.next.new.self.iter)
    (witnesses_left c.loop-i.i-iterator.iter) c.loop-i.invariant.1.1 steps.0 in
    let i-is : c.in-Some.i ≡ c.loop-i.i-iterator.count = steps.1 in
    let more : c.next.new.self.count ≡ c.loop-i.i-iterator.count + 1 = steps.2 in
    let done = below_more (λ j. get_or (set c.loop-i.places c.in-Some.i c.in-Some.witness.place) j 0 ≡ (g j).place) c.loop-i.i-iterator.count
    (λ j h. let ne : j ≢ c.in-Some.i = omega arith in rw get_or-set_other (c.loop-i.invariant.0 j h))
    (let lt : c.in-Some.i < length c.loop-i.places = omega (arith, t.more, i-is, c.loop-i.auto.places, c.requires) in
    rw (← i-is) (rw get_or-set_same (ap (λ w. w.place) t.here ∙ ap (λ j. (g j).place) (sym i-is)))) in
    subst (λ n. ((j : ℕ) → j < n → get_or (set c.loop-i.places c.in-Some.i c.in-Some.witness.place) j 0 ≡ (g j).place) × ((n ≤ c.args.self.now.header.now.k) × (witnesses_left c.next.new.self.iter ≡ map g (range_with_len n (c.args.self.now.header.now.k - n)))))
    (sym more) (done, (omega (arith, t.more), t.others))

pub returns : goal.returns
returns c =
    let over = left_end (witness_at (block_of c.args.self.now) c.args.self.now.proof.witnesses.now) c.loop-i.i-iterator.count c.args.self.now.header.now.k
    (witnesses_left c.loop-i.i-iterator.iter) c.loop-i.invariant.1.1 c.in-None.ensures.steps.0.0 in
    places_are (witness_at (block_of c.args.self.now) c.args.self.now.proof.witnesses.now) c.args.self.now.header.now.k c.loop-i.places
    (c.loop-i.auto.places ∙ c.requires) (λ j l. c.loop-i.invariant.0 j (omega arith))
