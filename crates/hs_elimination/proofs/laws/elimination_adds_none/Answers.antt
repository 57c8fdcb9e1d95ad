use Rattle.hs_elimination.proofs.Order.{adds_none}
use Rattle.hs_elimination.proofs.laws.elimination_adds_none.Goals as goal

pub returns : goal.returns
returns c = adds_none
