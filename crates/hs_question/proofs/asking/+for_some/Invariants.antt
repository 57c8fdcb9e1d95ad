use Rattle.std.proofs.Common.{length}
use Rattle.hs_question.proofs.asking.+for_some.Given as goal

abbrev pub decreases-for_some : goal.decreases-for_some
decreases-for_some l = length l.variables.now
