use Rattle.hs_heap.proofs.Satisfied.{renamed_is_satisfied}
use Rattle.hs_heap.proofs.laws.renamed_is_satisfied.Goals as goal

pub returns : goal.returns
returns c = renamed_is_satisfied
