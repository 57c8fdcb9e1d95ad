use Rattle.hs_heap.proofs.Satisfied.{instantiated_means_invariant}
use Rattle.hs_heap.proofs.laws.instantiated_means_invariant.Goals as goal

pub returns : goal.returns
returns c = instantiated_means_invariant
