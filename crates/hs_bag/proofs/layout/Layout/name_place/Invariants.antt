use Rattle.std.proofs.Common.{◌≡◌, ◌+◌, drop}
use Rattle.hs_reduction.specs.Layout.{name_place}
use Rattle.hs_bag.proofs.layout.Layout.name_place.Given as goal

abbrev pub invariant-loop-w : goal.invariant-loop-w
invariant-loop-w l = record {
  place : l.place ≡ l.w-index;
  is : name_place l.v l.w-items ≡ l.place + name_place l.v (drop l.w-index l.w-items);
}
