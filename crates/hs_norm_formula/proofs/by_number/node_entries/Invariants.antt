use Rattle.std.proofs.Common.{◌≡◌, take, length}
use Rattle.hs_norm_formula.specs.Numbered.{counted, node_entry}
use Rattle.hs_norm_formula.proofs.by_number.node_entries.Given as goal

abbrev pub invariant-loop-i : goal.invariant-loop-i
invariant-loop-i l = record {
  built : l.all ≡ counted node_entry (take l.i l.nodes);
  count : length l.all ≡ l.i;
}
