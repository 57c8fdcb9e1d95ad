use Rattle.std.proofs.Common.{◌≡◌, take, map}
use Rattle.hs_norm_item.specs.Free.{mark_pure, mark_each}
use Rattle.hs_norm_item.proofs.free.+marks.Given as goal

abbrev pub invariant-mark_pures-loop-p : goal.invariant-mark_pures-loop-p
invariant-mark_pures-loop-p l = l.free ≡ mark_each (map mark_pure (take l.p-index l.ps)) l.initial.free
