use Rattle.hs_rules.proofs.Steps.{right_steps_keep}
use Rattle.hs_rules.proofs.laws.right_steps_keep_meaning.Goals as goal

pub returns : goal.returns
returns c = right_steps_keep c.approximation_is_true.ensures
