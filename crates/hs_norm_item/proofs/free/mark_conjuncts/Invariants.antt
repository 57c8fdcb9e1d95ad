use Rattle.std.proofs.Common.{◌≡◌, take}
use Rattle.hs_norm_item.specs.Free.{mark_conjuncts}
use Rattle.hs_norm_item.proofs.free.mark_conjuncts.Given as goal

abbrev pub invariant-loop-p : goal.invariant-loop-p
invariant-loop-p l = l.free ≡ mark_conjuncts (take l.p-index l.ps) l.initial.free
