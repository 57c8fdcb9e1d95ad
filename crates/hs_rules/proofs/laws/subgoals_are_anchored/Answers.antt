use Rattle.hs_rules.proofs.Anchored.{subgoals_anchored}
use Rattle.hs_rules.proofs.laws.subgoals_are_anchored.Goals as goal

pub returns : goal.returns
returns c = subgoals_anchored
