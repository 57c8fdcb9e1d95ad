use Rattle.hs_heap.proofs.Satisfied.{satisfaction_is_of_free}
use Rattle.hs_heap.proofs.laws.satisfaction_is_of_free.Goals as goal

pub returns : goal.returns
returns c = satisfaction_is_of_free
