use Rattle.std.proofs.Common.{◌≡◌, ◌+◌, ◌≤◌, ◌++◌}
use Rattle.hs_heap.specs.Instance.{count_below}
use Rattle.hs_program_rules.specs.Parts.{is_other}
use Rattle.hs_program_parts.specs.Pairs.{others_below}
use Rattle.hs_program_parts.proofs.pairs.push_others.Given as goal

abbrev pub invariant-loop-number : goal.invariant-loop-number
invariant-loop-number l = record {
  next : l.next ≡ l.fresh + count_below (is_other l.m l.p) l.number;
  low : l.next ≤ l.fresh + l.number;
  pairs : l.pairs ≡ l.initial.pairs ++ others_below (is_other l.m l.p) l.fresh l.number;
}
