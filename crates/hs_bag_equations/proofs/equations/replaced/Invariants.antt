use Rattle.std.proofs.Common.{◌≡◌, map, take}
use Rattle.hs_bag_equations.specs.Placing.{read, read_put}
use Rattle.hs_bag_equations.proofs.equations.replaced.Given as goal

abbrev pub invariant-loop-e : goal.invariant-loop-e
invariant-loop-e l = map read l.all ≡ map (read_put l.last) (take l.e-index l.es)
