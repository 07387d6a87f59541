use Rattle.std.proofs.Common.{◌&&◌, ltb, ◌∙◌, rules}
use Rattle.std.proofs.lemmas.Bool.{le-ltb}
use Rattle.std.proofs.lemmas.Fn.{always_returns_same}
use Rattle.erasure.proofs.Rises.{rising_none, rising_over, rising_adjacent}
use Rattle.erasure.proofs.places.are_rising.Goals as goal

pub returns-in_default : goal.returns-in_default
returns-in_default c = rising_none c.args.w c.args.places.now c.in_default.ensures.value

pub returns-then-first-w : goal.returns-then-first-w
returns-then-first-w c =
    rising_adjacent c.args.w c.in-Some.first.now c.args.places.now c.is_sorted_by.result c.in-Some.ensures.value c.if-first-w.true
    (c.is_sorted_by.ensures.cases (λ x y. ltb x y && ltb y c.args.w) (always_returns_same _ _ _ (λ a r g h. search rules)))

pub returns-else-first-w : goal.returns-else-first-w
returns-else-first-w c =
    le-ltb c.in-Some.first.now c.args.w c.if-first-w.false ∙ rising_over c.args.w c.in-Some.first.now c.args.places.now c.in-Some.ensures.value c.if-first-w.false
