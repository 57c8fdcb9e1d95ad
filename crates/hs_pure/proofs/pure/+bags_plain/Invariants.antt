use Rattle.std.proofs.Common.{◌≡◌, take, false, map}
use Rattle.std.specs.List.{list_any}
use Rattle.hs_pure.specs.Occurs.{bag_use}
use Rattle.hs_pure.proofs.pure.+bags_plain.Given as goal

abbrev pub invariant-all_bags_plain-loop-p : goal.invariant-all_bags_plain-loop-p
invariant-all_bags_plain-loop-p l = list_any (λ p. p.under) (map bag_use (take l.p-index l.ps)) ≡ false
