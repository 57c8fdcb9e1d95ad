-- States and goals of programs are well formed, and well-formed states that are prepared have rules.
use Rattle.std.specs.Prelude.{◌≡◌, ℕ, ◌≤◌, ◌^◌, ◌↔◌, List, Some}
use Rattle.std.specs.List.{All}
use Rattle.hs_heap.specs.declared.formula.Formula.{Formula}
use Rattle.hs_heap.specs.declared.definitions.Defs.{Defs}
use Rattle.hs_heap.specs.Sound.{IsSound}
use Rattle.hs_goal.specs.declared.goal.Goal.{Goal}
use Rattle.hs_goal.specs.declared.rule.ERule.{ERule}
use Rattle.hs_goal.specs.Shape.{GoalFits}
use Rattle.hs_goal.specs.Classes.{IsSimple}
use Rattle.hs_rules.specs.Rules.{Judgement, IsRightStep}
use Rattle.hs_rules.specs.Laws.{AllFresh}
use Rattle.hs_core.specs.declared.instr.Instr.{Instr}
use Rattle.hs_core.specs.declared.program.Program.{Program}
use Rattle.hs_core.specs.declared.state.At.{At}
use Rattle.hs_core.specs.declared.state.PRule.{PRule}
use Rattle.hs_core.specs.Sound.{IsSoundProgram}
use Rattle.hs_core.specs.Set.{IsSet}
use Rattle.hs_program_rules.specs.States.{StateFits, method_at, instruction_at, entry}
use Rattle.hs_program_rules.specs.Table.{ReadsHeld, IsRuleOf, HasForm, goal_of, premises_of, AreLow}
use Rattle.hs_program_rules.specs.Laws.{PairExists}
use Rattle.hs_program_fits.specs.Prepared.{IsPrepared}
use Rattle.hs_program_fits.specs.Formed.{IsFormed, AllFormed, ResidueIsFormed}

-- ---- prepared states

-- the start of each pair is prepared
abbrev pub EntriesArePrepared : Type 0
EntriesArePrepared = (defs : Defs) (program : Program) → IsSoundProgram defs program → (m i : ℕ) → PairExists program m i → IsPrepared program (entry program m i)

-- the further premises of a prepared state are prepared
abbrev pub PremisesArePrepared : Type 0
PremisesArePrepared = (defs : Defs) (program : Program) → IsSoundProgram defs program →
    (at : At) (rule : PRule) → StateFits defs program at → IsPrepared program at → HasForm program at rule →
    (residue : Formula) → All (IsPrepared program) (premises_of defs program at rule residue)

-- in a set program the slots that the next instruction of a prepared state reads hold variables
abbrev pub PreparedStatesAreRead : Type 0
PreparedStatesAreRead = (defs : Defs) (program : Program) → IsSoundProgram defs program → IsSet program →
    (at : At) → StateFits defs program at → IsPrepared program at →
    (i : Instr) → instruction_at program at ≡ Some i → ReadsHeld (method_at program at) at.state.slots i

-- the next instruction is there, and the state has exactly its rules: at a call one for each pair of the method
pub record HasRules (program : Program) (at : At) : Type 0 where
  pub instr : Instr
  pub is : instruction_at program at ≡ Some instr
  pub rules : (rule : PRule) → HasForm program at rule ↔ IsRuleOf program instr rule

-- in a set program a prepared state that is simple has the rules of its instruction
abbrev pub SimpleStatesHaveRules : Type 0
SimpleStatesHaveRules = (defs : Defs) (program : Program) → IsSoundProgram defs program → IsSet program →
    (at : At) → StateFits defs program at → IsPrepared program at → IsSimple at.state.formula → HasRules program at

-- ---- well-formed goals, states and residues

-- the goal that a rule asks of a well-formed state is well formed, where there is room for its numbers
abbrev pub AskedGoalsFit : Type 0
AskedGoalsFit = (defs : Defs) (program : Program) → IsSoundProgram defs program →
    (at : At) (rule : PRule) → StateFits defs program at → HasForm program at rule →
    (g : Goal) → goal_of defs program at rule ≡ Some g → g.next ≤ 2 ^ 30 → GoalFits defs g

-- the further premises of a well-formed state are well formed, where there is room for their numbers and the residue of
-- the goal is formed and keeps numbers apart
abbrev pub PremisesFit : Type 0
PremisesFit = (defs : Defs) (program : Program) → IsSoundProgram defs program →
    (at : At) (rule : PRule) → StateFits defs program at → HasForm program at rule →
    (residue : Formula) → ResidueIsFormed defs (goal_of defs program at rule) residue →
    AreLow (premises_of defs program at rule residue) → All (StateFits defs program) (premises_of defs program at rule residue)

-- a right step's residue is formed where those of its premises are formed and keep numbers apart
abbrev pub RightStepsStayFormed : Type 0
RightStepsStayFormed = (defs : Defs) → IsSound defs → (g : Goal) (residue : Formula) (rule : ERule) (premises : List Judgement) →
    IsRightStep defs g residue rule premises → AllFresh premises → AllFormed defs premises → IsFormed defs residue
