use Rattle.hs_reduction.proofs.Satisfied.{reduction_is_exact}
use Rattle.hs_reduction.proofs.laws.reduction_is_exact.Goals as goal

pub returns : goal.returns
returns c = reduction_is_exact
