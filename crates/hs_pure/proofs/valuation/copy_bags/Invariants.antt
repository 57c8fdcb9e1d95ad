use Rattle.std.proofs.Common.{◌≡◌, take}
use Rattle.hs_pure.proofs.valuation.copy_bags.Given as goal

abbrev pub invariant-loop-bag : goal.invariant-loop-bag
invariant-loop-bag l = l.all ≡ take l.bag-index l.bags
