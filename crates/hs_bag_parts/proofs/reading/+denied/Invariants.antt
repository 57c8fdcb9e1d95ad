use Rattle.std.proofs.Common.{◌≡◌, ◌+◌, ◌^◌, ◌≤◌, min, drop}
use Rattle.hs_bag_parts.specs.Reading.{all_denied}
use Rattle.hs_bag_parts.proofs.reading.+denied.Given as goal

abbrev pub invariant-count_all_denied-loop-p : goal.invariant-count_all_denied-loop-p
invariant-count_all_denied-loop-p l = record {
  small : l.count ≤ 2 ^ 31;
  is : min (l.count + all_denied l.asserted (drop l.p-index l.ps)) (2 ^ 31) ≡ min (all_denied l.asserted l.ps) (2 ^ 31);
}
