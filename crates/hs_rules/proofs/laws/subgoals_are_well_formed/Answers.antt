use Rattle.hs_rules.proofs.SubgoalsFit.{subgoals_fit}
use Rattle.hs_rules.proofs.laws.subgoals_are_well_formed.Goals as goal

pub returns : goal.returns
returns c = subgoals_fit
