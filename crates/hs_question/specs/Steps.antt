-- What is asked of a goal, a rule and the residues of its premises.
use Rattle.std.specs.Prelude.{◌≡◌, List, length}
use Rattle.hs_heap.specs.declared.formula.Formula.{Formula}
use Rattle.hs_heap.specs.declared.definitions.Defs.{Defs}
use Rattle.hs_heap.specs.Sound.{IsSound}
use Rattle.hs_goal.specs.declared.goal.Goal.{Goal}
use Rattle.hs_goal.specs.declared.rule.ERule.{ERule}
use Rattle.hs_goal.specs.Shape.{GoalFits}
use Rattle.hs_rules.specs.Subgoals.{subgoals_of}
use Rattle.hs_rules.specs.Rules.{Applies}

-- for some sound definitions the goal is well formed, the rule applies, and there is one formula per subgoal
pub record HasResidue (g : Goal) (rule : ERule) (premises : List Formula) : Type 0 where
  pub defs : Defs
  pub sound : IsSound defs
  pub shape : GoalFits defs g
  pub applies : Applies defs g rule
  pub one_each : length premises ≡ length (subgoals_of defs g rule)
