use Rattle.hs_xpure.proofs.Closed.{approximation_is_plain}
use Rattle.hs_xpure.proofs.laws.approximation_is_plain.Goals as goal

pub returns : goal.returns
returns c = approximation_is_plain
