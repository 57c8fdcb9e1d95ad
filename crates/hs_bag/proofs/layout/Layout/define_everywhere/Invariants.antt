use Rattle.std.proofs.Common.{◌≡◌, length, map}
use Rattle.hs_pure.specs.Assertion.{every, assertion_of, bag_term_of}
use Rattle.hs_reduction.specs.Reduction.{all_below, defined}
use Rattle.hs_bag.specs.Counting.{layout_of}
use Rattle.hs_bag.proofs.layout.Layout.define_everywhere.Given as goal

abbrev pub invariant-loop-i : goal.invariant-loop-i
invariant-loop-i l = record {
  size : length l.parts ≡ l.i;
  made : every (map assertion_of l.parts) ≡ all_below l.i (defined (layout_of l.self) l.block (bag_term_of l.b));
}
