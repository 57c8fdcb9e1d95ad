use Rattle.std.proofs.Common.{◌≡◌, take, true, map}
use Rattle.std.specs.List.{list_all}
use Rattle.hs_goal.specs.Closed.{is_closed}
use Rattle.hs_goal.proofs.closed.+closed.Given as goal

abbrev pub invariant-all_closed-loop-p : goal.invariant-all_closed-loop-p
invariant-all_closed-loop-p l = list_all (λ b. b) (map is_closed (take l.p-index l.ps)) ≡ true
