use Rattle.std.proofs.Common.{◌≡◌, map, take}
use Rattle.hs_pure.specs.Assertion.{assertion_of}
use Rattle.hs_bag_equations.specs.Placing.{put_in_place}
use Rattle.hs_bag_equations.proofs.put.+put.Given as goal

abbrev pub invariant-put_all-loop-p : goal.invariant-put_all-loop-p
invariant-put_all-loop-p l = map assertion_of l.all ≡ map (λ p. put_in_place l.es (assertion_of p)) (take l.p-index l.ps)
