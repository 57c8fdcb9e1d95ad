use Rattle.hs_rules.proofs.SubgoalsFit.{subgoals_grow}
use Rattle.hs_rules.proofs.laws.subgoals_grow.Goals as goal

pub returns : goal.returns
returns c = subgoals_grow
