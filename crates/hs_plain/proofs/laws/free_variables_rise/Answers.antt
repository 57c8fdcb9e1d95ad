use Rattle.hs_plain.proofs.Free.{free_variables_rise}
use Rattle.hs_plain.proofs.laws.free_variables_rise.Goals as goal

pub returns : goal.returns
returns c = free_variables_rise
