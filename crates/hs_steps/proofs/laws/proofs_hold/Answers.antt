use Rattle.hs_steps.proofs.Concluded.{proofs_hold}
use Rattle.hs_steps.proofs.laws.proofs_hold.Goals as goal

pub returns : goal.returns
returns c = proofs_hold c.right_steps_keep_meaning.ensures
