-- Questions that the decision procedure takes.
use Rattle.std.specs.Prelude.{Option, Some, None}
use Rattle.hs_heap.specs.declared.definitions.Defs.{Defs}
use Rattle.hs_heap.specs.Sound.{IsSound}
use Rattle.hs_goal.specs.declared.goal.Goal.{Goal}
use Rattle.hs_goal.specs.declared.rule.Question.{Question}
use Rattle.hs_goal.specs.declared.rule.ERule.{ERule}
use Rattle.hs_goal.specs.Shape.{GoalFits}
use Rattle.hs_xpure.specs.Laws.{CanBeAsked, HasLowNumbers}
use Rattle.hs_rules.specs.Conditions.{HasCondition}
use Rattle.hs_rules.specs.Questions.{question_of}

-- if there is a question, each of its sides can be asked
abbrev pub SidesCanBeAsked : Option Question → Type 0
SidesCanBeAsked None = Unit {0}
SidesCanBeAsked (Some q) = CanBeAsked q.left × CanBeAsked q.right

-- if there is a question, the numbers of its sides are low
abbrev pub SidesAreLow : Option Question → Type 0
SidesAreLow None = Unit {0}
SidesAreLow (Some q) = HasLowNumbers q.left × HasLowNumbers q.right

-- the question of a rule that has its condition at a well-formed goal can be asked
abbrev pub QuestionsCanBeAsked : Type 0
QuestionsCanBeAsked = (defs : Defs) → IsSound defs → (g : Goal) → GoalFits defs g → (rule : ERule) → HasCondition defs g rule →
    SidesCanBeAsked (question_of defs g rule)
