use Rattle.std.proofs.Common.{◌≡◌, length, map}
use Rattle.hs_pure.specs.Assertion.{every, assertion_of}
use Rattle.hs_reduction.specs.Reduction.{all_below}
use Rattle.hs_bag_parts.specs.Formulas.{counted, related}
use Rattle.hs_bag.specs.Counting.{layout_of, number_in}
use Rattle.hs_bag.proofs.layout.Layout.all_related.Given as goal

abbrev pub invariant-loop-i : goal.invariant-loop-i
invariant-loop-i l = record {
  size : length l.parts ≡ l.i;
  made : every (map assertion_of l.parts) ≡ all_below l.i ((λ i. related l.relation (counted (number_in (layout_of l.self) l.x i)) (counted (number_in (layout_of l.self) l.y i))));
}
