use Rattle.hs_side_rules.proofs.Valued.{equation_told}
use Rattle.hs_side_rules.proofs.laws.equations_are_told.Goals as goal

pub returns : goal.returns
returns c = equation_told
