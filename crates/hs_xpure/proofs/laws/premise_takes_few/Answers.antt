use Rattle.hs_xpure.proofs.Few.{premise_takes_few}
use Rattle.hs_xpure.proofs.laws.premise_takes_few.Goals as goal

pub returns : goal.returns
returns c = premise_takes_few
