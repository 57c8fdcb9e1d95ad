use Rattle.hs_reduction.proofs.Bagless.{bagless_is_ordered}
use Rattle.hs_reduction.proofs.laws.bagless_is_ordered.Goals as goal

pub returns : goal.returns
returns c = bagless_is_ordered
