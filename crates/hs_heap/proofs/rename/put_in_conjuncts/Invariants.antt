use Rattle.std.proofs.Common.{◌≡◌, take, map}
use Rattle.hs_pure.specs.Rename.{renaming, renamed}
use Rattle.hs_heap.proofs.rename.put_in_conjuncts.Given as goal

abbrev pub invariant-loop-p : goal.invariant-loop-p
invariant-loop-p l = l.all ≡ map (renamed (renaming l.pairs)) (take l.p-index l.ps)
