use Rattle.hs_heap.proofs.Satisfied.{conjuncts_are_of_free}
use Rattle.hs_heap.proofs.laws.conjuncts_are_of_free.Goals as goal

pub returns : goal.returns
returns c = conjuncts_are_of_free
