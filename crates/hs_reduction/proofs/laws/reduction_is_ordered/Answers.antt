use Rattle.hs_reduction.proofs.Order.{reduction_is_ordered}
use Rattle.hs_reduction.proofs.laws.reduction_is_ordered.Goals as goal

pub returns : goal.returns
returns c = reduction_is_ordered
