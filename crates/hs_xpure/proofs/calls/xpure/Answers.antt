use Rattle.std.proofs.Common.{ap, ◌∙◌}
use Rattle.hs_xpure.specs.Approximation.{conjunction}
use Rattle.hs_xpure.proofs.calls.xpure.Goals as goal

pub returns-clause-exact : goal.returns-clause-exact
returns-clause-exact c = c.conjunction.ensures ∙ ap conjunction c.in_ok-pure.ensures.exact
