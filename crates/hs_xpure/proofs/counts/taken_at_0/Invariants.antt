use Rattle.std.proofs.Common.{◌≡◌, take, map, Some}
use Rattle.hs_heap.specs.declared.definitions.PredDef.{PredDef}
use Rattle.hs_xpure.specs.Counts.{capped, inv_taken}
use Rattle.hs_xpure.proofs.counts.taken_at_0.Given as goal

abbrev pub invariant-loop-i : goal.invariant-loop-i
invariant-loop-i l = l.counts ≡ map (λ (p : PredDef). capped (inv_taken (Some p))) (take l.i l.p-items)
