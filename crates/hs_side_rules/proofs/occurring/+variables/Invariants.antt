use Rattle.std.proofs.Common.{◌≡◌, take, true, map}
use Rattle.std.specs.List.{list_all}
use Rattle.hs_side_rules.specs.Splitting.{may_occur, all_in_formula}
use Rattle.hs_side_rules.proofs.occurring.+variables.Given as goal

abbrev pub invariant-all_in_members-loop-p : goal.invariant-all_in_members-loop-p
invariant-all_in_members-loop-p l = list_all (λ b. b) (map (all_in_formula (may_occur l.goal l.f)) (take l.p-index l.ps)) ≡ true
