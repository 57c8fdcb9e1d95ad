use Rattle.std.proofs.Common.{◌≡◌, drop}
use Rattle.hs_heap.specs.Tests.{rises_from}
use Rattle.hs_core.proofs.pures.is_ordered.Given as goal

abbrev pub invariant-loop-t : goal.invariant-loop-t
invariant-loop-t l = rises_from 0 l.terms ≡ rises_from l.least (drop l.t-index l.terms)
