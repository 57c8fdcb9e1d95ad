use Rattle.std.proofs.Common.{◌≡◌, suc, true, replicate}
use Rattle.hs_lower_faults.proofs.set.SetTable.params.Given as goal

abbrev pub invariant-loop-i : goal.invariant-loop-i
invariant-loop-i l = l.bits ≡ replicate (suc l._i) true
