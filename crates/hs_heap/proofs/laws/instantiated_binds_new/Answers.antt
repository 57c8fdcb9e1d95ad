use Rattle.hs_heap.proofs.Satisfied.{instantiated_binds_new}
use Rattle.hs_heap.proofs.laws.instantiated_binds_new.Goals as goal

pub returns : goal.returns
returns c = instantiated_binds_new
