use Rattle.std.proofs.Common.{ap, ◌∙◌}
use Rattle.sha256.specs.Compression.{compressed, sums, up_to}
use Rattle.sha256.specs.Vars.{vars}
use Rattle.sha256.proofs.compression.compress.Goals as goal

pub returns : goal.returns
unfolding compressed
returns c = c.total.ensures ∙ ap (sums (vars c.args.v)) (c.rounds.ensures ∙ ap (λ w. up_to w (vars c.args.v) 64) c.schedule.ensures)
