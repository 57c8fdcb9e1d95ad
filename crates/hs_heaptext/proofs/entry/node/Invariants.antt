use Rattle.std.proofs.Common.{◌≡◌}
use Rattle.hs_heaptext.proofs.Nodes.{NoneBefore}
use Rattle.hs_heaptext.proofs.entry.node.Given as goal

abbrev pub invariant-loop-def : goal.invariant-loop-def
invariant-loop-def l = record {
  number : l.of ≡ l.def-index;
  none : NoneBefore l.defs l.text l.def-index;
}
