use Rattle.std.proofs.Common.{◌≡◌, take}
use Rattle.hs_heap.proofs.copies.copy_preds.Given as goal

abbrev pub invariant-loop-pred : goal.invariant-loop-pred
invariant-loop-pred l = l.all ≡ take l.pred-index l.preds
