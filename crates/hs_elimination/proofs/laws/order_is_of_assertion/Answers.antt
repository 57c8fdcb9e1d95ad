use Rattle.hs_elimination.proofs.Order.{order_is}
use Rattle.hs_elimination.proofs.laws.order_is_of_assertion.Goals as goal

pub returns : goal.returns
returns c = order_is
