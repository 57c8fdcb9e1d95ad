use Rattle.std.proofs.Common.{◌≡◌, length, map}
use Rattle.hs_pure.specs.Assertion.{every, assertion_of}
use Rattle.hs_reduction.specs.Reduction.{all_below, equal_counts}
use Rattle.hs_bag.specs.Counting.{layout_of}
use Rattle.hs_bag.proofs.layout.Layout.equal_to_earlier.Given as goal

abbrev pub invariant-loop-j : goal.invariant-loop-j
invariant-loop-j l = record {
  size : length l.parts ≡ l.j;
  made : every (map assertion_of l.parts) ≡ all_below l.j (equal_counts (layout_of l.self) l.block l.i);
}
