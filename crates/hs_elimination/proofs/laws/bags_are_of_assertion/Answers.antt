use Rattle.hs_elimination.proofs.Order.{bags_are}
use Rattle.hs_elimination.proofs.laws.bags_are_of_assertion.Goals as goal

pub returns : goal.returns
returns c = bags_are
