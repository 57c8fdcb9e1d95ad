-- What a rule that applies says of the numbers in it.
use Rattle.std.proofs.Common.{◌≡◌, ℕ, ◌+◌, ◌≤◌, ◌^◌, List, [], length, subst}
use Rattle.std.proofs.lemmas.List.Elements.{All-head}
use Rattle.hs_heap.specs.declared.formula.Formula.{Formula}
use Rattle.hs_heap.specs.declared.definitions.Defs.{Defs}
use Rattle.hs_goal.specs.declared.goal.Goal.{Goal}
use Rattle.hs_goal.specs.declared.rule.ERule.{ERule}
use Rattle.hs_goal.specs.declared.rule.ERule.TheVariants as rule_of
use Rattle.hs_goal.specs.Classes.{the_case}
use Rattle.hs_rules.specs.Subgoals.{left_opened, right_opened}
use Rattle.hs_rules.specs.Rules.{Applies}
use Rattle.hs_question.specs.Steps.{HasResidue}

module _ (g : Goal) (rule : ERule) (premises : List Formula) (step : HasResidue g rule premises) where
  pub left_room : rule ≡ rule_of.LeftExists → g.next + length (the_case g.left).bound ≤ 2 ^ 30
  left_room is =
      let a : Applies step.defs g rule_of.LeftExists = subst (λ r. Applies step.defs g r) is step.applies in
      All-head (λ (sub : Goal). sub.next ≤ 2 ^ 30) (left_opened g (the_case g.left)) [] a.room

  pub right_room : rule ≡ rule_of.RightExists → g.next + length (the_case g.right).bound ≤ 2 ^ 30
  right_room is =
      let a : Applies step.defs g rule_of.RightExists = subst (λ r. Applies step.defs g r) is step.applies in
      All-head (λ (sub : Goal). sub.next ≤ 2 ^ 30) (right_opened g (the_case g.right)) [] a.room

module _ (defs : Defs) (g : Goal) (rule : ERule) (applies : Applies defs g rule) where
  pub false_level : (n : ℕ) → rule ≡ rule_of.False n → n ≤ 3
  false_level n is =
      let a : Applies defs g (rule_of.False n) = subst (λ r. Applies defs g r) is applies in
      a.condition.level

  pub empty_level : (n : ℕ) → rule ≡ rule_of.Empty n → n ≤ 3
  empty_level n is =
      let a : Applies defs g (rule_of.Empty n) = subst (λ r. Applies defs g r) is applies in
      a.condition.level
