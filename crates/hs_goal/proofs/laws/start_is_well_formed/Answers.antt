use Rattle.hs_goal.proofs.Sides.{start_is_well_formed}
use Rattle.hs_goal.proofs.laws.start_is_well_formed.Goals as goal

pub returns : goal.returns
returns c = start_is_well_formed
