use Rattle.hs_heap.proofs.Satisfied.{satisfaction_is_of_kinds}
use Rattle.hs_heap.proofs.laws.satisfaction_is_of_kinds.Goals as goal

pub returns : goal.returns
returns c = satisfaction_is_of_kinds
