use Rattle.std.proofs.Common.{length}
use Rattle.hs_heap.proofs.sound.+follow_from.Given as goal

abbrev pub decreases-follow_from : goal.decreases-follow_from
decreases-follow_from l = length l.vs.now
