use Rattle.hs_counts.proofs.Right.{right_are_said}
use Rattle.hs_counts.proofs.laws.counts_are_said.Goals as goal

pub returns : goal.returns
returns c = right_are_said
