use Rattle.hs_rules.proofs.FreshSteps.{right_steps_fresh}
use Rattle.hs_rules.proofs.laws.right_steps_stay_fresh.Goals as goal

pub returns : goal.returns
returns c = right_steps_fresh
