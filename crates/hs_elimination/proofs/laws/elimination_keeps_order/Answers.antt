use Rattle.hs_elimination.proofs.Order.{ordered-without_variable}
use Rattle.hs_elimination.proofs.laws.elimination_keeps_order.Goals as goal

pub returns : goal.returns
returns c = λ x p simple. ordered-without_variable x p
