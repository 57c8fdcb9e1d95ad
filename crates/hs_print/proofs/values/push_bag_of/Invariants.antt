use Rattle.std.proofs.Common.{◌≡◌, drop}
use Rattle.std.specs.String.{string_bytes}
use Rattle.hs_pure.specs.Eval.{found_bag}
use Rattle.hs_print.proofs.values.push_bag_of.Given as goal

abbrev pub invariant-loop-bag : goal.invariant-loop-bag
invariant-loop-bag l = (found_bag (drop l.bag-index l.v.bags) l.x ≡ found_bag l.v.bags l.x) × (string_bytes l.out ≡ string_bytes l.initial.out)
