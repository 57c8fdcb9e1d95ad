use Rattle.std.proofs.Common.{◌≡◌, length, take}
use Rattle.hs_heap.proofs.equality.same_conjuncts.Given as goal

abbrev pub invariant-loop-p : goal.invariant-loop-p
invariant-loop-p l = take (length l.yielded) l.ps ≡ take (length l.yielded) l.qs
