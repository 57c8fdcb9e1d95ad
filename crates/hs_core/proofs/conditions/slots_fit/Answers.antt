use Rattle.std.proofs.Common.{ap, ◌∙◌}
use Rattle.hs_heap.specs.Tests.{pure_fits}
use Rattle.hs_core.proofs.InScope.{in_scope-UpTo}
use Rattle.hs_core.proofs.conditions.slots_fit.Goals as goal

pub returns : goal.returns
returns c = c.pure_fits.ensures ∙ ap (λ scope. pure_fits scope 0 c.args.p.now scope) (in_scope-UpTo c.args.slots)
