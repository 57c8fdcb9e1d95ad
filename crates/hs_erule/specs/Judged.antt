-- What is answered of a step.
use Rattle.std.specs.Prelude.{◌≡◌, ℕ, ◌<◌, List, map, Option, Some, None}
use Rattle.hs_pure.specs.Assertion.{Assertion, assertion_of}
use Rattle.hs_heap.specs.declared.formula.Formula.{Formula}
use Rattle.hs_heap.specs.declared.definitions.Defs.{Defs}
use Rattle.hs_decide.specs.declared.answer.Answer.{Answer}
use Rattle.hs_decide.specs.declared.answer.Answer.TheVariants as decide
use Rattle.hs_decide.specs.Question.{question}
use Rattle.hs_decide.specs.Size.{size_of}
use Rattle.hs_decide.specs.Span.{SpanIsWide, IsSpent}
use Rattle.hs_goal.specs.declared.goal.Goal.{Goal}
use Rattle.hs_goal.specs.declared.rule.ERule.{ERule}
use Rattle.hs_goal.specs.declared.rule.Question.{Question}
use Rattle.hs_goal.specs.Shape.{GoalFits}
use Rattle.hs_rules.specs.Subgoals.{subgoals_of}
use Rattle.hs_rules.specs.Residues.{residue_of}
use Rattle.hs_rules.specs.Questions.{question_of, IsTrueQuestion, IsAnswered}
use Rattle.hs_rules.specs.Rules.{Applies, Judgement, IsRightStep, TakesTooMany}
use Rattle.hs_check.specs.declared.verdict.Reason.{Reason}
use Rattle.hs_check.specs.declared.verdict.Reason.TheVariants as reason
use Rattle.hs_check.specs.declared.verdict.NodeAnswer.{NodeAnswer}
use Rattle.hs_check.specs.declared.verdict.NodeAnswer.TheVariants as answer

-- ---- the question

-- the left side and not the right side
abbrev pub asked_of : Question → Assertion
asked_of q = question (assertion_of q.left) (assertion_of q.right)

-- an answer to the question, as one of the step
abbrev pub verdict_of : Answer → NodeAnswer
verdict_of decide.Yes = answer.Right
verdict_of (decide.No v) = answer.Wrong reason.Question
verdict_of decide.Atoms = answer.Atoms
verdict_of decide.Wide = answer.Wide

-- a question that is there has this
abbrev pub OfQuestion : (Question → Type 0) → Option Question → Type 0
OfQuestion P None = ⊥
OfQuestion P (Some q) = P q

-- a question takes more atoms than are allowed
abbrev pub TakesMoreAtoms : ℕ → Question → Type 0
TakesMoreAtoms atoms q = atoms < size_of (asked_of q)

-- a number of the decision of a question passes 128 bits
abbrev pub IsWideQuestion : Question → Type 0
IsWideQuestion q = SpanIsWide (asked_of q)

-- a question that is there is spent
abbrev pub IsSpentQuestion : ℕ → Option Question → Type 0
IsSpentQuestion atoms = OfQuestion (λ q. IsSpent atoms (asked_of q))

-- Right or Wrong
abbrev pub IsRightOrWrong : NodeAnswer → Type 0
IsRightOrWrong answer.Right = Unit {0}
IsRightOrWrong (answer.Wrong r) = Unit {0}
IsRightOrWrong answer.Numbers = ⊥
IsRightOrWrong answer.Atoms = ⊥
IsRightOrWrong answer.Wide = ⊥

-- only the question fails
abbrev pub IsOfQuestion : Reason → Type 0
IsOfQuestion reason.Shape = ⊥
IsOfQuestion reason.Rule = ⊥
IsOfQuestion reason.Premise = ⊥
IsOfQuestion reason.Residue = ⊥
IsOfQuestion reason.Question = Unit {0}

-- what is answered of a question
abbrev pub IsVerdict : ℕ → Question → NodeAnswer → Type 0
IsVerdict atoms q answer.Right = IsTrueQuestion q
IsVerdict atoms q (answer.Wrong r) = IsOfQuestion r × ¬ (IsTrueQuestion q)
IsVerdict atoms q answer.Numbers = ⊥
IsVerdict atoms q answer.Atoms = TakesMoreAtoms atoms q
IsVerdict atoms q answer.Wide = IsWideQuestion q

abbrev pub IsDecidedVerdict : ℕ → Question → NodeAnswer → Type 0
IsDecidedVerdict atoms q a = ¬ (IsSpent atoms (asked_of q)) → IsRightOrWrong a

-- what is answered of the question of a rule
abbrev pub IsAnswerTo : Defs → Goal → ERule → ℕ → NodeAnswer → Type 0
IsAnswerTo defs g rule atoms answer.Right = IsAnswered (question_of defs g rule)
IsAnswerTo defs g rule atoms (answer.Wrong r) = IsOfQuestion r × ¬ (IsAnswered (question_of defs g rule))
IsAnswerTo defs g rule atoms answer.Numbers = TakesTooMany defs g rule
IsAnswerTo defs g rule atoms answer.Atoms = OfQuestion (TakesMoreAtoms atoms) (question_of defs g rule)
IsAnswerTo defs g rule atoms answer.Wide = OfQuestion IsWideQuestion (question_of defs g rule)

-- where the question neither takes too many numbers nor is spent, the answer is Right or Wrong
abbrev pub IsDecidedTo : Defs → Goal → ERule → ℕ → NodeAnswer → Type 0
IsDecidedTo defs g rule atoms a =
    ¬ (TakesTooMany defs g rule) → ¬ (IsSpentQuestion atoms (question_of defs g rule)) → IsRightOrWrong a

-- ---- the step

-- goals with residues, as pairs
abbrev pub Premises : Type 0
Premises = List (Goal × Formula)

abbrev pub goals_of : Premises → List Goal
goals_of premises = map (λ p. p.0) premises

abbrev pub residues_of : Premises → List Formula
residues_of premises = map (λ p. p.1) premises

abbrev pub judgements_of : Premises → List Judgement
judgements_of premises = map (λ p. record { goal = p.0; residue = p.1 }) premises

abbrev pub GoalsAre : Defs → Goal → ERule → Premises → Type 0
GoalsAre defs g rule premises = goals_of premises ≡ subgoals_of defs g rule

abbrev pub ResidueIs : Goal → Formula → ERule → Premises → Type 0
ResidueIs g residue rule premises = residue ≡ residue_of g rule (residues_of premises)

-- all tests but that of the question
pub record Passes (defs : Defs) (g : Goal) (residue : Formula) (rule : ERule) (premises : Premises) : Type 0 where
  pub shape : GoalFits defs g
  pub applies : Applies defs g rule
  pub goals_are : GoalsAre defs g rule premises
  pub residue_is : ResidueIs g residue rule premises

-- the first test that fails, with those before it
abbrev pub Fails : Defs → Goal → Formula → ERule → Premises → Reason → Type 0
Fails defs g residue rule premises reason.Shape = ¬ (GoalFits defs g)
Fails defs g residue rule premises reason.Rule = GoalFits defs g × ¬ (Applies defs g rule)
Fails defs g residue rule premises reason.Premise = GoalFits defs g × Applies defs g rule × ¬ (GoalsAre defs g rule premises)
Fails defs g residue rule premises reason.Residue =
    GoalFits defs g × Applies defs g rule × GoalsAre defs g rule premises × ¬ (ResidueIs g residue rule premises)
Fails defs g residue rule premises reason.Question = Passes defs g residue rule premises × ¬ (IsAnswered (question_of defs g rule))

-- what is answered of a step
abbrev pub IsJudged : Defs → Goal → Formula → ERule → Premises → ℕ → NodeAnswer → Type 0
IsJudged defs g residue rule premises atoms answer.Right = IsRightStep defs g residue rule (judgements_of premises)
IsJudged defs g residue rule premises atoms (answer.Wrong r) = Fails defs g residue rule premises r
IsJudged defs g residue rule premises atoms answer.Numbers = Passes defs g residue rule premises × TakesTooMany defs g rule
IsJudged defs g residue rule premises atoms answer.Atoms =
    Passes defs g residue rule premises × OfQuestion (TakesMoreAtoms atoms) (question_of defs g rule)
IsJudged defs g residue rule premises atoms answer.Wide =
    Passes defs g residue rule premises × OfQuestion IsWideQuestion (question_of defs g rule)
