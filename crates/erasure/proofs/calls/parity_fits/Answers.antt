use Rattle.std.proofs.Common.{sym, ◌∙◌}
use Rattle.erasure.specs.Calls.{parity_fits}
use Rattle.erasure.proofs.calls.parity_fits.Goals as goal

pub returns-then-holds : goal.returns-then-holds
unfolding parity_fits
returns-then-holds c = c.holds-then-holds.ensures ∙ rw (sym c.if-not-ok_width.ensures, sym c.if-holds.ensures)

pub returns-else-holds : goal.returns-else-holds
unfolding parity_fits
returns-else-holds c = c.if-holds.false ∙ rw (sym c.if-not-ok_width.ensures, sym c.if-holds.ensures)

pub returns-then-not-ok_width : goal.returns-then-not-ok_width
unfolding parity_fits
returns-then-not-ok_width c = rw (sym c.if-not-ok_width.ensures)
