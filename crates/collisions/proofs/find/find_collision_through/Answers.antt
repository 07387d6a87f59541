use Rattle.std.proofs.Common.{sym, ◌∙◌}
use Rattle.collisions.proofs.Fits.{strings_fitting}
use Rattle.collisions.proofs.find.find_collision_through.Goals as goal

pub find_in_two-requires-clause-lengths : goal.find_in_two-requires-clause-lengths
find_in_two-requires-clause-lengths g c = strings_fitting _ _ _ _ _ _ (sym c.strings_fit.ensures ∙ c.if-not-strings_fit.false)
