-- The table of entailment rules: its columns are `HasCondition`, `subgoals_of`, `residue_of` and `question_of`.
use Rattle.std.specs.Prelude.{◌≡◌, ◌+◌, ◌<◌, ◌≤◌, ◌^◌, ◌++◌, List, map}
use Rattle.std.specs.List.{All}
use Rattle.hs_heap.specs.declared.formula.Formula.{Formula}
use Rattle.hs_heap.specs.declared.definitions.Defs.{Defs}
use Rattle.hs_goal.specs.declared.goal.Goal.{Goal}
use Rattle.hs_goal.specs.declared.rule.ERule.{ERule}
use Rattle.hs_goal.specs.declared.rule.ERule.TheVariants as rule_of
use Rattle.hs_goal.specs.Shape.{GoalFits}
use Rattle.hs_xpure.specs.Approximation.{next_of}
use Rattle.hs_rules.specs.Parts.{left_atoms}
use Rattle.hs_rules.specs.Conditions.{HasCondition}
use Rattle.hs_rules.specs.Subgoals.{subgoals_of}
use Rattle.hs_rules.specs.Residues.{residue_of}
use Rattle.hs_rules.specs.Questions.{question_of, IsAnswered}

-- the side condition apart from the question
pub record Applies (defs : Defs) (g : Goal) (rule : ERule) : Type 0 where
  pub condition : HasCondition defs g rule
  -- there is room for the new numbers
  pub room : All (λ (sub : Goal). sub.next ≤ 2 ^ 30) (subgoals_of defs g rule)

-- a goal with its residue
pub record Judgement : Type 0 where
  pub goal : Goal
  pub residue : Formula

-- a well-formed goal with a residue follows from premises by a rule
pub record IsRightStep (defs : Defs) (g : Goal) (residue : Formula) (rule : ERule) (premises : List Judgement) : Type 0 where
  pub shape : GoalFits defs g
  pub applies : Applies defs g rule
  pub goals_are : map (λ (p : Judgement). p.goal) premises ≡ subgoals_of defs g rule
  pub residue_is : residue ≡ residue_of g rule (map (λ (p : Judgement). p.residue) premises)
  pub answered : IsAnswered (question_of defs g rule)

-- the approximation in the rule's question takes more than 2^30 new numbers
abbrev pub TakesTooMany : Defs → Goal → ERule → Type 0
TakesTooMany defs g (rule_of.False n) = g.next + 2 ^ 30 < next_of defs n (g.used ++ left_atoms g) g.next
TakesTooMany defs g (rule_of.Empty n) = g.next + 2 ^ 30 < next_of defs n (g.used ++ left_atoms g) g.next
TakesTooMany defs g rule_of.LeftOr = ⊥
TakesTooMany defs g rule_of.LeftExists = ⊥
TakesTooMany defs g (rule_of.Split f) = ⊥
TakesTooMany defs g (rule_of.RightOr i) = ⊥
TakesTooMany defs g rule_of.RightExists = ⊥
TakesTooMany defs g (rule_of.Instantiate c) = ⊥
TakesTooMany defs g (rule_of.Match r l) = ⊥
TakesTooMany defs g (rule_of.Unfold l) = ⊥
TakesTooMany defs g (rule_of.Fold r i) = ⊥
TakesTooMany defs g (rule_of.Lemma j l) = ⊥
