-- Asked goals are well formed.
use Rattle.hs_program_fits.proofs.Asking.{asked_goals}
use Rattle.hs_program_fits.proofs.laws.asked_goals_fit.Goals as goal

pub returns : goal.returns
returns c = asked_goals
