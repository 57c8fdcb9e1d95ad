use Rattle.std.proofs.Common.{length}
use Rattle.hs_heaptext.proofs.Words.{HaveRead}
use Rattle.hs_heaptext.proofs.values.values.Given as goal

abbrev pub invariant-loop-rest : goal.invariant-loop-rest
invariant-loop-rest l = HaveRead l.text l.all l.rest

abbrev pub decreases-loop-rest : goal.decreases-loop-rest
decreases-loop-rest l = length l.rest
