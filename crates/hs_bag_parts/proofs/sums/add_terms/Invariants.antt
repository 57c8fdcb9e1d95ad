use Rattle.std.proofs.Common.{length, drop, ◌-◌, ◌+◌, ◌++◌, ◌≡◌, ◌<◌, ◌≤◌}
use Rattle.hs_elimination.specs.Linear.{merge}
use Rattle.hs_bag_parts.proofs.sums.add_terms.Given as goal

abbrev pub invariant-merging : goal.invariant-merging
invariant-merging l = record {
  a_in : l.i ≤ length l.a;
  b_in : l.j ≤ length l.b;
  sum : l.terms ++ merge (drop l.i l.a) (drop l.j l.b) ≡ merge l.a l.b;
}

abbrev pub decreases-merging : goal.decreases-merging
decreases-merging l = (length l.a - l.i) + (length l.b - l.j)

abbrev pub invariant-left : goal.invariant-left
invariant-left l = record {
  a_in : l.i ≤ length l.a;
  b_in : l.j ≤ length l.b;
  b_done : l.i < length l.a → length l.b ≤ l.j;
  sum : l.terms ++ merge (drop l.i l.a) (drop l.j l.b) ≡ merge l.a l.b;
}

abbrev pub decreases-left : goal.decreases-left
decreases-left l = length l.a - l.i

abbrev pub invariant-right : goal.invariant-right
invariant-right l = record {
  b_in : l.j ≤ length l.b;
  sum : l.terms ++ drop l.j l.b ≡ merge l.fn.a l.b;
}

abbrev pub decreases-right : goal.decreases-right
decreases-right l = length l.b - l.j
