use Rattle.hs_steps.proofs.Concluded.{proofs_are_fresh}
use Rattle.hs_steps.proofs.laws.proofs_are_fresh.Goals as goal

pub returns : goal.returns
returns c = proofs_are_fresh c.right_steps_stay_fresh.ensures
