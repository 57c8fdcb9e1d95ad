-- A step that is right is a right step of the table.
use Rattle.std.specs.Prelude.{◌≡◌, List, Some}
use Rattle.hs_heap.specs.declared.formula.Formula.{Formula}
use Rattle.hs_heap.specs.declared.definitions.Defs.{Defs}
use Rattle.hs_goal.specs.declared.goal.Goal.{Goal}
use Rattle.hs_core.specs.declared.program.Program.{Program}
use Rattle.hs_core.specs.declared.state.At.{At}
use Rattle.hs_core.specs.declared.state.PRule.{PRule}
use Rattle.hs_node.specs.declared.judgement.Judgement.{Judgement}
use Rattle.hs_program_rules.specs.Table.{goal_of, premises_of}
use Rattle.hs_program_rules.specs.Laws.{Entailing, Entailed, IsRightStep}
use Rattle.hs_prule.specs.Judged.{Gives, IsRight}

module _ (defs : Defs) (program : Program) (at : At) (rule : PRule) (premises : List Judgement) where
  -- what the first premise gives to the goal is entailed
  abbrev pub IsEntailed : Entailing → Type 0
  IsEntailed E = (g : Goal) (residue : Formula) → goal_of defs program at rule ≡ Some g → Gives defs program at rule (Some g) premises residue → E g residue

  -- the step of the table, by the residue that the premises give
  abbrev pub IsStepBy : Entailing → IsRight defs program at rule premises → Type 0
  IsStepBy E right = IsRightStep defs program E rule at (premises_of defs program at rule right.premises_are.residue)

-- a right step whose first premise is entailed is a right step of the table
abbrev pub RightStepsAreSteps : Type 0
RightStepsAreSteps = (defs : Defs) (program : Program) (at : At) (rule : PRule) (premises : List Judgement) →
    (right : IsRight defs program at rule premises) → IsEntailed defs program at rule premises (Entailed defs) → IsStepBy defs program at rule premises (Entailed defs) right
