use Rattle.hs_elimination.proofs.Order.{lacks-without_variable}
use Rattle.hs_elimination.proofs.laws.elimination_lacks.Goals as goal

pub returns : goal.returns
returns c = lacks-without_variable
