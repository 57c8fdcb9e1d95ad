use Rattle.hs_steps.proofs.Concluded.{residue_is_shown}
use Rattle.hs_steps.proofs.laws.residue_is_shown.Goals as goal

pub returns : goal.returns
returns c = residue_is_shown
