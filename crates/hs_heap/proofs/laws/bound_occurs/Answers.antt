use Rattle.hs_heap.proofs.Occurring.{bound-occurs_of}
use Rattle.hs_heap.proofs.laws.bound_occurs.Goals as goal

pub returns : goal.returns
returns c = λ p v. bound-occurs_of v p
