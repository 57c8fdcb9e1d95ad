use Rattle.std.proofs.Common.{length}
use Rattle.hs_prule.proofs.judge.+are_runs.Given as goal

abbrev pub decreases-are_runs : goal.decreases-are_runs
decreases-are_runs l = length l.others.now
