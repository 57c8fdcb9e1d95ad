use Rattle.std.proofs.Common.{◌≡◌, length, map}
use Rattle.hs_pure.specs.Assertion.{every, assertion_of}
use Rattle.hs_reduction.specs.Reduction.{all_below, are_counts}
use Rattle.hs_bag.specs.Counting.{layout_of}
use Rattle.hs_bag.proofs.layout.Layout.all_are_counts.Given as goal

abbrev pub invariant-loop-block : goal.invariant-loop-block
invariant-loop-block l = record {
  size : length l.parts ≡ l.block;
  made : every (map assertion_of l.parts) ≡ all_below l.block (are_counts (layout_of l.self));
}
