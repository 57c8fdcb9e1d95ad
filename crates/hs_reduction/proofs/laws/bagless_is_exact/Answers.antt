use Rattle.hs_reduction.proofs.Bagless.{bagless_is_exact}
use Rattle.hs_reduction.proofs.laws.bagless_is_exact.Goals as goal

pub returns : goal.returns
returns c = bagless_is_exact
