use Rattle.hs_counts.proofs.Right.{nothing_else}
use Rattle.hs_counts.proofs.laws.nothing_else_is_said.Goals as goal

pub returns : goal.returns
returns c = nothing_else
