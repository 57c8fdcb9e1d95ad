use Rattle.hs_reduction.proofs.Rebuilt.{counts_are_counts}
use Rattle.hs_reduction.proofs.laws.counts_are_counts.Goals as goal

pub returns : goal.returns
returns c = counts_are_counts
