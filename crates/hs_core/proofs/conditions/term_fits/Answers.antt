use Rattle.std.proofs.Common.{ap, ◌∙◌}
use Rattle.hs_heap.specs.Tests.{sum_fits}
use Rattle.hs_core.proofs.InScope.{in_scope-UpTo}
use Rattle.hs_core.proofs.conditions.term_fits.Goals as goal

pub returns : goal.returns
returns c = c.sum_fits.ensures ∙ ap (λ scope. sum_fits c.args.term.now scope) (in_scope-UpTo c.args.slots)
