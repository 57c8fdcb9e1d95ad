use Rattle.hs_xpure.proofs.Few.{premise_can_be_formed}
use Rattle.hs_xpure.proofs.laws.premise_can_be_formed.Goals as goal

pub returns : goal.returns
returns c = premise_can_be_formed
