use Rattle.std.proofs.Common.{◌≡◌, take, true, map}
use Rattle.std.specs.List.{list_all}
use Rattle.hs_heap.specs.Tests.{pure_fits}
use Rattle.hs_core.specs.Tests.{in_scope}
use Rattle.hs_core.proofs.pures.+fits.Given as goal

abbrev pub invariant-both_fit-loop-p : goal.invariant-both_fit-loop-p
invariant-both_fit-loop-p l = list_all (λ f. f (in_scope l.scope)) (map (pure_fits (in_scope l.free) l.next) (take l.p-index l.ps)) ≡ true
