use Rattle.std.proofs.Common.{◌≡◌, ◌+◌, ◌++◌, map, drop}
use Rattle.hs_goal.specs.declared.rule.ERule.TheVariants as rule_of
use Rattle.hs_heap.specs.Instance.{body_of}
use Rattle.hs_choices.specs.Places.{places_from}
use Rattle.hs_choices.specs.Choices.{may_hold, folds}
use Rattle.hs_choices.proofs.atoms.push_folds.Given as goal

abbrev pub invariant-loop-i : goal.invariant-loop-i
invariant-loop-i l = l.all.items ++ map (λ n. rule_of.Fold l.r n) (places_from (may_hold l.goal l.right) (l.i + 1) (drop l.i ((body_of l.defs l.right.of).formula.cases))) ≡ l.initial.all.items ++ folds l.defs l.goal l.r l.right
