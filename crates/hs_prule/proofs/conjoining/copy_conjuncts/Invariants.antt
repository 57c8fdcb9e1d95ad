use Rattle.std.proofs.Common.{◌≡◌, take}
use Rattle.hs_prule.proofs.conjoining.copy_conjuncts.Given as goal

abbrev pub invariant-loop-p : goal.invariant-loop-p
invariant-loop-p l = l.all ≡ take l.p-index l.ps
