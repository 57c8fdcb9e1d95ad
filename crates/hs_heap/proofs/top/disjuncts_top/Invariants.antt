use Rattle.std.proofs.Common.{◌≡◌, take}
use Rattle.hs_heap.specs.Variables.{disjuncts_top}
use Rattle.hs_heap.proofs.top.disjuncts_top.Given as goal

abbrev pub invariant-loop-case : goal.invariant-loop-case
invariant-loop-case l = l.top ≡ disjuncts_top (take l.case-index l.cases)
