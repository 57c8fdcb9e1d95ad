use Rattle.hs_pure.proofs.Tops.{occurs-below_top}
use Rattle.hs_pure.proofs.laws.occurs_below_top.Goals as goal

pub returns : goal.returns
returns c = occurs-below_top
