use Rattle.hs_reduction.proofs.Satisfied.{reduced_is_satisfiable}
use Rattle.hs_reduction.proofs.laws.reduced_is_satisfiable.Goals as goal

pub returns : goal.returns
returns c = reduced_is_satisfiable
