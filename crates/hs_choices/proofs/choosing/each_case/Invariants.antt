use Rattle.std.proofs.Common.{◌≡◌, ◌+◌, ◌++◌, map, drop, true}
use Rattle.hs_goal.specs.declared.rule.ERule.TheVariants as rule_of
use Rattle.hs_choices.specs.Places.{places_from, all_places}
use Rattle.hs_choices.proofs.choosing.each_case.Given as goal

abbrev pub invariant-loop-i : goal.invariant-loop-i
invariant-loop-i l = l.all.items ++ map (λ n. rule_of.RightOr n) (places_from (λ d. true) (l.i + 1) (drop l.i l.cases)) ≡ map (λ n. rule_of.RightOr n) (all_places l.cases)
