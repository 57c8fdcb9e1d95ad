use Rattle.std.proofs.Common.{◌≡◌, length, take}
use Rattle.hs_heap.proofs.equality.same_cases.Given as goal

abbrev pub invariant-loop-case : goal.invariant-loop-case
invariant-loop-case l = take (length l.yielded) l.cases ≡ take (length l.yielded) l.others
