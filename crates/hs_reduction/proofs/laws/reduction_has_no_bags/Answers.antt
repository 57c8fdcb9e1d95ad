use Rattle.hs_reduction.proofs.Plain.{reduction_has_no_bags}
use Rattle.hs_reduction.proofs.laws.reduction_has_no_bags.Goals as goal

pub returns : goal.returns
returns c = reduction_has_no_bags
