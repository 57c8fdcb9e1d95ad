use Rattle.std.proofs.Common.{length}
use Rattle.hs_question.proofs.residues.+to_fresh.Given as goal

abbrev pub decreases-to_fresh : goal.decreases-to_fresh
decreases-to_fresh l = length l.bound.now
