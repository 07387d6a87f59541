use Rattle.std.proofs.Common.{sym, ap, ◌∙◌, subst}
use Rattle.fraud.specs.Accepted.{Every}
use Rattle.fraud.specs.Charge.{block_of, case_in}
use Rattle.fraudproof.specs.Left.{witnesses_left}
use Rattle.fraudproof.specs.Witness.{values_of}
use Rattle.extraction.specs.Extracted.{Sound, agrees, first_against}
use Rattle.extraction.proofs.Against.{against_later, against_here, against_none, every_cut}
use Rattle.extraction.proofs.Comparing.{all_sound}
use Rattle.extraction.proofs.comparison.Comparison.first_against.Goals as goal

pub loop-w-init : goal.loop-w-init
loop-w-init c =
    let s = c.args.self.now in
    let all = ap witnesses_left c.into_iter-w-iterator.ensures.into_iter_gives ∙ c.witnesses-w-items.ensures in (
      ap (first_against (agrees (block_of s.charge) s.square.now (case_in s.charge).claim)) (sym all),
      subst (Every (Sound (block_of s.charge))) (sym all) (all_sound (block_of s.charge) s.charge.proof s.charge.formed),
    )

pub has_share-requires : goal.has_share-requires
has_share-requires c =
    (every_cut (Sound (block_of c.args.self.now.charge)) (witnesses_left c.loop-w.w-iterator) (witnesses_left c.next.new.self) (values_of c.in-Some.w)
    c.in-Some.ensures.steps c.loop-w.invariant.1).0.place

pub returns-then-not-has_share : goal.returns-then-not-has_share
returns-then-not-has_share c =
    let s = c.args.self.now in
    let test = agrees (block_of s.charge) s.square.now (case_in s.charge).claim in
    record {
      value = sym (against_here test (case_in s.charge).witnesses (witnesses_left c.loop-w.w-iterator) c.loop-w.invariant.0 (values_of c.in-Some.w)
          (witnesses_left c.next.new.self) c.in-Some.ensures.steps (sym c.if-not-has_share.ensures));
      sound = (every_cut (Sound (block_of s.charge)) (witnesses_left c.loop-w.w-iterator) (witnesses_left c.next.new.self) (values_of c.in-Some.w)
          c.in-Some.ensures.steps c.loop-w.invariant.1).0;
    }

pub loop-w-preserved : goal.loop-w-preserved
loop-w-preserved c =
    let s = c.args.self.now in
    let test = agrees (block_of s.charge) s.square.now (case_in s.charge).claim in (
      against_later test (case_in s.charge).witnesses (witnesses_left c.loop-w.w-iterator) c.loop-w.invariant.0 (values_of c.in-Some.w)
          (witnesses_left c.next.new.self) c.in-Some.ensures.steps (sym c.if-not-has_share.ensures),
      (every_cut (Sound (block_of s.charge)) (witnesses_left c.loop-w.w-iterator) (witnesses_left c.next.new.self) (values_of c.in-Some.w)
          c.in-Some.ensures.steps c.loop-w.invariant.1).1,
    )

pub returns-clause-value : goal.returns-clause-value
returns-clause-value c =
    let s = c.args.self.now in
    let test = agrees (block_of s.charge) s.square.now (case_in s.charge).claim in
    sym (against_none test (case_in s.charge).witnesses (witnesses_left c.loop-w.w-iterator) c.loop-w.invariant.0 c.in-None.ensures.steps.0)
