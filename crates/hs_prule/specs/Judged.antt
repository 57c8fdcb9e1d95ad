-- What is answered of a rule at a state, and when a step of programs is right.
use Rattle.std.specs.Prelude.{◌≡◌, ◌↔◌, List, [], ◌∷◌, map, Option, Some, None, Result, Ok, Err}
use Rattle.hs_heap.specs.declared.formula.Formula.{Formula}
use Rattle.hs_heap.specs.declared.definitions.Defs.{Defs}
use Rattle.hs_goal.specs.declared.goal.Goal.{Goal}
use Rattle.hs_sides.specs.declared.error.RuleError.{RuleError}
use Rattle.hs_sides.specs.declared.error.RuleError.TheVariants.{NotApplicable, Memory}
use Rattle.hs_core.specs.declared.program.Program.{Program}
use Rattle.hs_core.specs.declared.state.At.{At}
use Rattle.hs_core.specs.declared.state.PRule.{PRule}
use Rattle.hs_node.specs.declared.judgement.Judgement.{Judgement}
use Rattle.hs_node.specs.declared.judgement.Judgement.TheVariants.{Entails, Runs}
use Rattle.hs_check.specs.declared.verdict.Reason.{Reason}
use Rattle.hs_check.specs.declared.verdict.Reason.TheVariants as reason
use Rattle.hs_check.specs.declared.verdict.NodeAnswer.{NodeAnswer}
use Rattle.hs_check.specs.declared.verdict.NodeAnswer.TheVariants as answer
use Rattle.hs_program_rules.specs.States.{no_formula, StateFits}
use Rattle.hs_program_rules.specs.Table.{HasForm, goal_of, premises_of, GoalIsLow, AreLow}

-- the residue, where one is given
abbrev pub formula_or_none : Option Formula → Formula
formula_or_none None = no_formula
formula_or_none (Some f) = f

module _ (defs : Defs) (program : Program) (at : At) (rule : PRule) where
  -- ---- the goal and the further premises

  -- the rule applies, and the numbers of its goal stay below their bound
  pub record Asks : Type 0 where
    pub form : HasForm program at rule
    pub low : GoalIsLow (goal_of defs program at rule)

  -- what is answered of the goal
  abbrev pub IsObligation : Result (Option Goal) RuleError → Type 0
  IsObligation (Ok goal) = Asks × (goal ≡ goal_of defs program at rule)
  IsObligation (Err NotApplicable) = ¬ Asks
  IsObligation (Err Memory) = Unit {0}

  -- a residue is given exactly where the rule asks a goal
  abbrev pub IsGiven : Option Formula → Type 0
  IsGiven residue = (goal_of defs program at rule ≡ None) ↔ (residue ≡ None)

  -- the rule applies, and all its numbers stay below their bound
  pub record GoesOn (residue : Formula) : Type 0 where
    pub asks : Asks
    pub low : AreLow (premises_of defs program at rule residue)

  -- what is answered of the further premises
  abbrev pub AreNext : Formula → Result (List At) RuleError → Type 0
  AreNext residue (Ok premises) = GoesOn residue × (premises ≡ premises_of defs program at rule residue)
  AreNext residue (Err NotApplicable) = ¬ (GoesOn residue)
  AreNext residue (Err Memory) = Unit {0}

  -- ---- steps

  -- the first premise is the goal that the rule asks, with this residue; a rule that asks none has no residue
  abbrev pub Gives : Option Goal → List Judgement → Formula → Type 0
  Gives None premises residue = residue ≡ no_formula
  Gives (Some g) [] residue = ⊥
  Gives (Some g) (premise ∷ premises) residue = premise ≡ Entails g residue

  -- the premises behind it
  abbrev pub further : Option Goal → List Judgement → List Judgement
  further None premises = premises
  further (Some g) [] = []
  further (Some g) (premise ∷ premises) = premises

  module _ (premises : List Judgement) where
    -- the rule applies, and the numbers of its goal and of its further premises, where its first premise gives their
    -- residue, stay below their bound
    pub record HasRule : Type 0 where
      pub asks : Asks
      pub low : (residue : Formula) → Gives (goal_of defs program at rule) premises residue → AreLow (premises_of defs program at rule residue)

    -- the premises are those that the rule states, in order
    pub record HasPremises : Type 0 where
      pub residue : Formula
      pub gives : Gives (goal_of defs program at rule) premises residue
      pub others : further (goal_of defs program at rule) premises ≡ map (λ p. Runs p) (premises_of defs program at rule residue)

    -- the state is well formed, the rule applies, and the premises are those that it states
    pub record IsRight : Type 0 where
      pub fits : StateFits defs program at
      pub applies : HasRule
      pub premises_are : HasPremises

    -- the first test that fails, with those before it; a program's step has no residue and no question
    abbrev pub Fails : Reason → Type 0
    Fails reason.Shape = ¬ (StateFits defs program at)
    Fails reason.Rule = StateFits defs program at × ¬ HasRule
    Fails reason.Premise = StateFits defs program at × HasRule × ¬ HasPremises
    Fails reason.Residue = ⊥
    Fails reason.Question = ⊥

    -- what is answered of a step: it is right, or the first test that fails
    abbrev pub IsJudged : NodeAnswer → Type 0
    IsJudged answer.Right = IsRight
    IsJudged (answer.Wrong r) = Fails r
    IsJudged answer.Numbers = ⊥
    IsJudged answer.Atoms = ⊥
    IsJudged answer.Wide = ⊥
