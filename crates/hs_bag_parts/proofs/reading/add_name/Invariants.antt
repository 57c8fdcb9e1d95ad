use Rattle.std.proofs.Common.{◌-◌, ◌≤◌, length, vec_len}
use Rattle.hs_bag_parts.proofs.Together.{Passed}
use Rattle.hs_bag_parts.proofs.reading.add_name.Given as goal

abbrev pub invariant-loop-i : goal.invariant-loop-i
invariant-loop-i l = record {
  within : l.i ≤ length l.names.items;
  passed : Passed l.v l.names.items l.i;
}

abbrev pub decreases-loop-i : goal.decreases-loop-i
decreases-loop-i l = vec_len l.names - l.i
