use Rattle.hs_norm_formula.proofs.FewItems.{names_stay_few}
use Rattle.hs_norm_formula.proofs.laws.names_stay_few.Goals as goal

pub returns : goal.returns
returns c = names_stay_few
