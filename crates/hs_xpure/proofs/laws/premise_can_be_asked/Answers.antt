use Rattle.hs_xpure.proofs.Closed.{premise_can_be_asked}
use Rattle.hs_xpure.proofs.laws.premise_can_be_asked.Goals as goal

pub returns : goal.returns
returns c = premise_can_be_asked
