use Rattle.hs_xpure.proofs.Closed.{approximation_is_ordered}
use Rattle.hs_xpure.proofs.laws.approximation_is_ordered.Goals as goal

pub returns : goal.returns
returns c = approximation_is_ordered
