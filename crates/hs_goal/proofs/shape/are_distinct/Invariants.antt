use Rattle.std.proofs.Common.{◌↔◌, length}
use Rattle.hs_heap.specs.Sound.{AreDistinct}
use Rattle.hs_goal.proofs.shape.are_distinct.Given as goal

abbrev pub invariant-loop-rest : goal.invariant-loop-rest
invariant-loop-rest l = AreDistinct l.vs ↔ AreDistinct l.rest

abbrev pub decreases-loop-rest : goal.decreases-loop-rest
decreases-loop-rest l = length l.rest
