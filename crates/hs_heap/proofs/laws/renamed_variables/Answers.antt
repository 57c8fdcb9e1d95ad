use Rattle.hs_heap.proofs.Satisfied.{renamed_variables}
use Rattle.hs_heap.proofs.laws.renamed_variables.Goals as goal

pub returns : goal.returns
returns c = renamed_variables
