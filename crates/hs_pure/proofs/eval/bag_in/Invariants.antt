use Rattle.std.proofs.Common.{◌≡◌, drop}
use Rattle.hs_pure.specs.Eval.{found_bag}
use Rattle.hs_pure.proofs.eval.bag_in.Given as goal

abbrev pub invariant-loop-pair : goal.invariant-loop-pair
invariant-loop-pair l = found_bag l.bags l.v ≡ found_bag (drop l.pair-index l.bags) l.v
