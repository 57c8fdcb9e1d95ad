use Rattle.hs_pure.proofs.Weight.{bag_use-renamed}
use Rattle.hs_pure.proofs.laws.renamed_bag_use.Goals as goal

pub returns : goal.returns
returns c = bag_use-renamed
