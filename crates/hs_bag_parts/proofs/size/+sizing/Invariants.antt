use Rattle.std.proofs.Common.{◌≡◌, ◌+◌, ◌≤◌, min, drop}
use Rattle.hs_bag_parts.specs.Size.{all_reduced}
use Rattle.hs_bag_parts.proofs.size.+sizing.Given as goal

abbrev pub invariant-all_reduced-loop-p : goal.invariant-all_reduced-loop-p
invariant-all_reduced-loop-p l = record {
  small : l.count ≤ l.most;
  is : min (l.count + all_reduced l.w l.asserted (drop l.p-index l.ps)) l.most ≡ min (all_reduced l.w l.asserted l.ps) l.most;
}
