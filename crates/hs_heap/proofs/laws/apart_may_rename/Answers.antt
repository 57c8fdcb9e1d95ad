use Rattle.hs_heap.proofs.Satisfied.{apart_may_rename}
use Rattle.hs_heap.proofs.laws.apart_may_rename.Goals as goal

pub returns : goal.returns
returns c = apart_may_rename
