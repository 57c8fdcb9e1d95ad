use Rattle.hs_heap.proofs.Satisfied.{instantiated_means_body}
use Rattle.hs_heap.proofs.laws.instantiated_means_body.Goals as goal

pub returns : goal.returns
returns c = instantiated_means_body
