use Rattle.hs_pure.proofs.Weight.{light-renamed}
use Rattle.hs_pure.proofs.laws.renamed_is_light.Goals as goal

pub returns : goal.returns
returns c = light-renamed
