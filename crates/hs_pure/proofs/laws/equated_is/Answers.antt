use Rattle.hs_pure.proofs.Equating.{equated_is}
use Rattle.hs_pure.proofs.laws.equated_is.Goals as goal

pub returns : goal.returns
returns c = equated_is
