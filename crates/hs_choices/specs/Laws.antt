-- What the layers above use of choices.
use Rattle.std.specs.Prelude.{◌≡◌, ℕ, ◌<◌, ◌≤◌, ◌↔◌, false, IsTrue, List}
use Rattle.std.specs.List.{All}
use Rattle.hs_pure.specs.declared.var.Var.{Var}
use Rattle.hs_pure.specs.declared.pure.Pure.{Pure}
use Rattle.hs_heap.specs.declared.definitions.Defs.{Defs}
use Rattle.hs_heap.specs.Sound.{IsSound}
use Rattle.hs_goal.specs.declared.goal.Goal.{Goal}
use Rattle.hs_goal.specs.declared.rule.ERule.{ERule}
use Rattle.hs_goal.specs.Classes.{SameClass}
use Rattle.hs_goal.specs.Shape.{GoalFits}
use Rattle.hs_rules.specs.Conditions.{HasCondition}
use Rattle.hs_rules.specs.Subgoals.{subgoals_of}
use Rattle.hs_rules.specs.Questions.{question_of, IsAnswered}
use Rattle.hs_choices.specs.Tests.{same_class, is_answered}
use Rattle.hs_choices.specs.Choices.{choices, is_paid}
use Rattle.hs_choices.specs.Weight.{weight}
use Rattle.hs_choices.specs.Asked.{UsesUp}
use Rattle.hs_choices.specs.Stuck.{IsSpentAt}
use Rattle.hs_choices.specs.declared.error.Spent.{Spent}

-- the test of classes is true exactly of variables of one class
abbrev pub ClassesAreTold : Type 0
ClassesAreTold = (ps : List Pure) (v w : Var) → IsTrue (same_class ps v w) ↔ SameClass ps v w

-- the test of questions is true exactly of questions that are true, at rules that have their condition
abbrev pub QuestionsAreTold : Type 0
QuestionsAreTold = (defs : Defs) → IsSound defs → (g : Goal) → GoalFits defs g → (rule : ERule) → HasCondition defs g rule →
    IsTrue (is_answered (question_of defs g rule)) ↔ IsAnswered (question_of defs g rule)

-- the conditions of the rules that are tried hold
abbrev pub ChoicesHaveConditions : Type 0
ChoicesHaveConditions = (defs : Defs) (level : ℕ) → level ≤ 3 → (g : Goal) → All (HasCondition defs g) (choices defs level g)

-- the weight of a goal falls at each rule that is tried and is not paid
abbrev pub ChoicesFall : Type 0
ChoicesFall = (defs : Defs) (level : ℕ) (g : Goal) →
    All (λ (rule : ERule). is_paid rule ≡ false → All (λ (sub : Goal). weight sub < weight g) (subgoals_of defs g rule)) (choices defs level g)

-- what the question of a rule that is tried uses up is used up at the goal
abbrev pub ChoicesUseUp : Type 0
ChoicesUseUp = (defs : Defs) (level atoms : ℕ) (g : Goal) →
    All (λ (rule : ERule). (s : Spent) → UsesUp defs g rule atoms s → IsSpentAt defs level atoms g s) (choices defs level g)
