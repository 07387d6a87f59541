use Rattle.std.proofs.Common.{sym, ◌∙◌}
use Rattle.collisions.proofs.Fits.{strings_fitting}
use Rattle.collisions.proofs.find.find_collision.Goals as goal

pub find-requires : goal.find-requires
find-requires g c = strings_fitting _ _ _ _ _ _ (sym c.strings_fit.ensures ∙ c.if-not-strings_fit.false)
