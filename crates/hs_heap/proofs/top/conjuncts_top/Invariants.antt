use Rattle.std.proofs.Common.{◌≡◌, take}
use Rattle.hs_heap.specs.Variables.{conjuncts_top}
use Rattle.hs_heap.proofs.top.conjuncts_top.Given as goal

abbrev pub invariant-loop-p : goal.invariant-loop-p
invariant-loop-p l = l.top ≡ conjuncts_top (take l.p-index l.ps)
