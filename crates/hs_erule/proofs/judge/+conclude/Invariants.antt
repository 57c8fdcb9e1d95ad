use Rattle.std.proofs.Common.{length}
use Rattle.hs_erule.proofs.judge.+conclude.Given as goal

abbrev pub decreases-conclude : goal.decreases-conclude
decreases-conclude l = length l.premises.now
