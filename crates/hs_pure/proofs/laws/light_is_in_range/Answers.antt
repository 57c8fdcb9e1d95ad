use Rattle.hs_pure.proofs.Weight.{light_in_range}
use Rattle.hs_pure.proofs.laws.light_is_in_range.Goals as goal

pub returns : goal.returns
returns c = light_in_range
