use Rattle.std.proofs.Common.{◌≡◌, ◌+◌, ◌^◌, ◌≤◌, min, drop}
use Rattle.hs_bag_parts.specs.Reading.{all_compounds}
use Rattle.hs_bag_parts.proofs.reading.+compounds.Given as goal

abbrev pub invariant-count_all_compounds-loop-p : goal.invariant-count_all_compounds-loop-p
invariant-count_all_compounds-loop-p l = record {
  small : l.count ≤ 2 ^ 31;
  is : min (l.count + all_compounds (drop l.p-index l.ps)) (2 ^ 31) ≡ min (all_compounds l.ps) (2 ^ 31);
}
