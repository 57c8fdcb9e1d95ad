use Rattle.hs_heap.proofs.Free.{arguments_agree}
use Rattle.hs_heap.proofs.laws.arguments_are_of_variables.Goals as goal

pub returns : goal.returns
returns c = arguments_agree
