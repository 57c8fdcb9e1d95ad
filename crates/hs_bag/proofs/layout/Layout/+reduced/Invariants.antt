use Rattle.std.proofs.Common.{◌≡◌, ◌+◌, ◌++◌, drop, map}
use Rattle.hs_pure.specs.Assertion.{assertion_of}
use Rattle.hs_bag.specs.Counting.{layout_of}
use Rattle.hs_bag_parts.specs.Reading.{all_denied, all_compounds}
use Rattle.hs_bag_parts.specs.Substituting.{way_of}
use Rattle.hs_bag.specs.Literals.{reduced_all, AllAreWide}
use Rattle.hs_bag.proofs.layout.Layout.+reduced.Given as goal

abbrev pub invariant-reduced_all-loop-p : goal.invariant-reduced_all-loop-p
invariant-reduced_all-loop-p l = record {
  parts : map assertion_of l.parts ++ reduced_all (layout_of l.self) (way_of l.how.way) l.how.end l.asserted (drop l.p-index l.ps) l.next_new l.next_block ≡ reduced_all (layout_of l.self) (way_of l.how.way) l.how.end l.asserted l.ps l.fn.new l.fn.block;
  new : l.next_new + all_denied l.asserted (drop l.p-index l.ps) ≡ l.fn.new + all_denied l.asserted l.ps;
  block : l.next_block + all_compounds (drop l.p-index l.ps) ≡ l.fn.block + all_compounds l.ps;
  wide : AllAreWide (layout_of l.self) (way_of l.how.way) l.how.end l.asserted (drop l.p-index l.ps) l.next_new → AllAreWide (layout_of l.self) (way_of l.how.way) l.how.end l.asserted l.ps l.fn.new;
}
