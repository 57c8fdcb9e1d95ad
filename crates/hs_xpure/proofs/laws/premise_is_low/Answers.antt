use Rattle.hs_xpure.proofs.Closed.{premise_is_low}
use Rattle.hs_xpure.proofs.laws.premise_is_low.Goals as goal

pub returns : goal.returns
returns c = premise_is_low
