use Rattle.std.proofs.Common.{◌≡◌, ◌+◌, ◌≤◌, min, drop}
use Rattle.hs_bag_parts.specs.Size.{all_comparisons}
use Rattle.hs_bag_parts.proofs.size.+comparisons.Given as goal

abbrev pub invariant-all_comparisons-loop-p : goal.invariant-all_comparisons-loop-p
invariant-all_comparisons-loop-p l = record {
  small : l.count ≤ l.most;
  is : min (l.count + all_comparisons (drop l.p-index l.ps)) l.most ≡ min (all_comparisons l.ps) l.most;
}
