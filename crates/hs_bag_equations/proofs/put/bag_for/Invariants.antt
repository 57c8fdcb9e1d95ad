use Rattle.std.proofs.Common.{◌≡◌, drop}
use Rattle.hs_bag_equations.specs.Placing.{bag_for}
use Rattle.hs_bag_equations.proofs.put.bag_for.Given as goal

abbrev pub invariant-loop-e : goal.invariant-loop-e
invariant-loop-e l = bag_for l.es l.v ≡ bag_for (drop l.e-index l.es) l.v
