use Rattle.std.proofs.Common.{sym, ◌∙◌}
use Rattle.header.specs.Fields.{fields_of}
use Rattle.store.proofs.Takings.{takes_verified, takes_none}
use Rattle.store.proofs.taking.take_evidence.Goals as goal

pub returns-in_err-axis-clause-taken : goal.returns-in_err-axis-clause-taken
returns-in_err-axis-clause-taken g c o =
    takes_none g.H.Hash.meaning (fields_of c.args.h.now) _ _ _ _ _ _ _ _ _ c.show.result (c.show.ensures.shown o)
    (sym c.in_err-axis.was ∙ c.unwrap_or.ensures) _ c.from_residual.ensures

pub returns-clause-taken : goal.returns-clause-taken
returns-clause-taken g c o =
    takes_verified g.H.Hash.meaning (fields_of c.args.h.now) _ _ _ _ _ _ _ _ _ c.show.result (c.show.ensures.shown o) c.in_ok-axis.axis _
    (sym c.in_ok-axis.was ∙ c.unwrap_or.ensures) c.verified-sound.ensures _ c.then_some.ensures
