use Rattle.hs_xpure.proofs.Levels.{approximation_is_true}
use Rattle.hs_xpure.proofs.laws.approximation_is_true.Goals as goal

pub returns : goal.returns
returns c = approximation_is_true
