use Rattle.hs_elimination.specs.Elimination.{eliminated}
use Rattle.hs_elimination.proofs.Order.{simple-assertion}
use Rattle.hs_elimination.proofs.laws.elimination_is_simple.Goals as goal

pub returns : goal.returns
returns c = λ x p. simple-assertion (eliminated x p)
