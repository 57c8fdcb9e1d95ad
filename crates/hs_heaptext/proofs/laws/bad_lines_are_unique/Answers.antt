use Rattle.hs_heaptext.proofs.Once.{bad_lines_are_unique}
use Rattle.hs_heaptext.proofs.laws.bad_lines_are_unique.Goals as goal

pub returns : goal.returns
returns c = bad_lines_are_unique
