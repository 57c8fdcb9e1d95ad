use Rattle.std.proofs.Common.{length}
use Rattle.hs_question.proofs.asking.+push_open_in.Given as goal

abbrev pub decreases-push_open_in : goal.decreases-push_open_in
decreases-push_open_in l = length l.opens.now
