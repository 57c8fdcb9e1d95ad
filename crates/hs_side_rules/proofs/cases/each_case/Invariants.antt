use Rattle.std.proofs.Common.{◌≡◌, take}
use Rattle.hs_rules.specs.Subgoals.{one_each}
use Rattle.hs_side_rules.proofs.cases.each_case.Given as goal

abbrev pub invariant-loop-case : goal.invariant-loop-case
invariant-loop-case l = l.subs ≡ one_each l.goal (take l.case-index l.goal.left.cases)
