use Rattle.std.proofs.Common.{◌≡◌, take}
use Rattle.hs_heap.specs.Seen.{mark_conjuncts}
use Rattle.hs_heap.proofs.seen.mark_conjuncts.Given as goal

abbrev pub invariant-loop-p : goal.invariant-loop-p
invariant-loop-p l = l.seen ≡ mark_conjuncts (take l.p-index l.ps) l.initial.seen
