use Rattle.hs_norm_formula.proofs.Order.{sum_is_ordered}
use Rattle.hs_norm_formula.proofs.laws.sum_is_ordered.Goals as goal

pub returns : goal.returns
returns c = sum_is_ordered
