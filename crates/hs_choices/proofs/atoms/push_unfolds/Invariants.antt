use Rattle.std.proofs.Common.{◌≡◌, ◌+◌, ◌++◌, map, drop}
use Rattle.hs_goal.specs.declared.rule.ERule.TheVariants as rule_of
use Rattle.hs_rules.specs.Parts.{left_atoms}
use Rattle.hs_choices.specs.Places.{places_from}
use Rattle.hs_choices.specs.Choices.{may_show_it, unfolds}
use Rattle.hs_choices.proofs.atoms.push_unfolds.Given as goal

abbrev pub invariant-loop-i : goal.invariant-loop-i
invariant-loop-i l = l.all.items ++ map (λ n. rule_of.Unfold n) (places_from (may_show_it l.goal l.right) (l.i + 1) (drop l.i (left_atoms l.goal))) ≡ l.initial.all.items ++ unfolds l.goal l.right
