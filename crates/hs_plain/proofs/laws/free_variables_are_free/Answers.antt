use Rattle.hs_plain.proofs.Free.{free_variables_are_free}
use Rattle.hs_plain.proofs.laws.free_variables_are_free.Goals as goal

pub returns : goal.returns
returns c = free_variables_are_free
