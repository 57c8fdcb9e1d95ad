use Rattle.hs_pure.proofs.Weight.{ordered-renamed}
use Rattle.hs_pure.proofs.laws.renamed_is_ordered.Goals as goal

pub returns : goal.returns
returns c = λ ρ p kinds. ordered-renamed ρ kinds p
