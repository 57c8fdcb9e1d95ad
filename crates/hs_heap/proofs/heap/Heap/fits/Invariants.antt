use Rattle.std.proofs.Common.{◌≡◌}
use Rattle.std.specs.List.{list_all}
use Rattle.std.specs.Map.{values_of}
use Rattle.hs_heap.specs.Tests.{node_fits}
use Rattle.hs_heap.proofs.heap.Heap.fits.Given as goal

abbrev pub invariant-loop-node : goal.invariant-loop-node
invariant-loop-node l = list_all (node_fits l.defs) (values_of l.self) ≡ list_all (node_fits l.defs) l.node-iterator
