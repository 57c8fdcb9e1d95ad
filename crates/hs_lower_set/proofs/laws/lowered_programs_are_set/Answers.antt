use Rattle.hs_lower_set.proofs.Methods.{lowered_set}
use Rattle.hs_lower_set.proofs.laws.lowered_programs_are_set.Goals as goal

pub returns : goal.returns
returns c = lowered_set
