use Rattle.std.proofs.Common.{◌≡◌, ◌+◌, ◌≤◌, ◌++◌, drop}
use Rattle.hs_heap.specs.Names.{other_pairs, next_number}
use Rattle.hs_heap.proofs.instance.push_others.Given as goal

abbrev pub invariant-loop-entry : goal.invariant-loop-entry
invariant-loop-entry l = record {
  at : l.number ≡ l.entry-index;
  low : l.next ≤ l.fresh + l.number;
  names : l.names.items ++ other_pairs l.params l.next l.number (drop l.entry-index l.seen) ≡ l.fn.names.items ++ other_pairs l.params l.fresh 0 l.seen;
  next : next_number l.params l.next l.number (drop l.entry-index l.seen) ≡ next_number l.params l.fresh 0 l.seen;
}
