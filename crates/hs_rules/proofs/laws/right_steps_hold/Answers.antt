use Rattle.hs_rules.proofs.Steps.{right_steps}
use Rattle.hs_rules.proofs.laws.right_steps_hold.Goals as goal

pub returns : goal.returns
returns c = right_steps c.approximation_is_true.ensures
