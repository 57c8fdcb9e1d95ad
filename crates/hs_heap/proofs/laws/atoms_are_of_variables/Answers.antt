use Rattle.hs_heap.proofs.Satisfied.{atoms_are_of_variables}
use Rattle.hs_heap.proofs.laws.atoms_are_of_variables.Goals as goal

pub returns : goal.returns
returns c = atoms_are_of_variables
