use Rattle.std.proofs.Common.{◌≡◌, ◌+◌, drop}
use Rattle.hs_reduction.specs.Layout.{lin_place}
use Rattle.hs_bag.proofs.layout.Layout.lin_place.Given as goal

abbrev pub invariant-loop-b : goal.invariant-loop-b
invariant-loop-b l = record {
  place : l.place ≡ l.b-index;
  is : lin_place l.a l.b-items ≡ l.place + lin_place l.a (drop l.b-index l.b-items);
}
