-- Residues of right steps are formed.
use Rattle.hs_program_fits.proofs.Forming.{right_steps_formed}
use Rattle.hs_program_fits.proofs.laws.right_steps_stay_formed.Goals as goal

pub returns : goal.returns
returns c = right_steps_formed
