use Rattle.std.proofs.Common.{◌≡◌, ◌≤◌, ◌++◌, drop}
use Rattle.hs_declared.specs.Declaring.{entries_after, entries}
use Rattle.hs_declared.proofs.declared.entries.Given as goal

abbrev pub invariant-loop-item : goal.invariant-loop-item
invariant-loop-item l = record {
  built : l.found ++ entries_after l.nodes l.preds (drop l.item-index l.items) ≡ entries l.items;
  nodes : l.nodes ≤ l.item-index;
  preds : l.preds ≤ l.item-index;
}
