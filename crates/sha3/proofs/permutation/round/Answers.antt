use Rattle.std.proofs.Common.{ap, ◌∙◌}
use Rattle.sha3.specs.Keccak.{round_of, rho_of, pi_of, chi_of, iota_of}
use Rattle.sha3.proofs.permutation.round.Goals as goal

pub returns : goal.returns
unfolding round_of
returns c =
    c.iota.ensures
    ∙ ap (λ l. iota_of l c.args.rc) (c.chi.ensures ∙ ap chi_of (c.pi.ensures ∙ ap pi_of (c.rho.ensures ∙ ap rho_of c.theta.ensures)))
