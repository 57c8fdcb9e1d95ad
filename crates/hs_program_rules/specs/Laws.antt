-- Right steps keep states safe, and concluded states are safe.
use Rattle.std.specs.Prelude.{◌≡◌, ℕ, suc, List, [], ◌∷◌, length, Option, Some, None}
use Rattle.std.specs.List.{All}
use Rattle.hs_heap.specs.declared.formula.Formula.{Formula}
use Rattle.hs_heap.specs.declared.definitions.Defs.{Defs}
use Rattle.hs_goal.specs.declared.goal.Goal.{Goal}
use Rattle.hs_goal.specs.Goal.{Holds, IsFreshResidue}
use Rattle.hs_core.specs.declared.program.Program.{Program}
use Rattle.hs_core.specs.declared.state.At.{At}
use Rattle.hs_core.specs.declared.state.PRule.{PRule}
use Rattle.hs_core.specs.Machine.{method_of}
use Rattle.hs_core.specs.Sound.{IsUpTo, IsSoundProgram}
use Rattle.hs_program_rules.specs.States.{StateFits, entry}
use Rattle.hs_program_rules.specs.Table.{HasForm, goal_of, premises_of, GoalIsLow, AreLow}
use Rattle.hs_program_rules.specs.Safe.{IsSafe}

-- which goals are entailed, with which residues
abbrev pub Entailing : Type 1
Entailing = Goal → Formula → Type 0

-- the goal holds with the residue, which keeps numbers apart
pub record Entailed (defs : Defs) (g : Goal) (residue : Formula) : Type 0 where
  pub holds : Holds defs g residue
  pub fresh : IsFreshResidue g residue

abbrev pub IsAsked : Entailing → Option Goal → Formula → Type 0
IsAsked E None residue = Unit {0}
IsAsked E (Some g) residue = E g residue

-- the rule applies to the state, its goal is entailed, and the further premises are these
pub record IsRightStep (defs : Defs) (program : Program) (E : Entailing) (rule : PRule) (at : At) (premises : List At) : Type 0 where
  pub fits : StateFits defs program at
  pub form : HasForm program at rule
  pub residue : Formula
  pub goal : IsAsked E (goal_of defs program at rule) residue
  pub premises_are : premises ≡ premises_of defs program at rule residue
  pub goal_low : GoalIsLow (goal_of defs program at rule)
  pub low : AreLow premises

-- the pair is there
abbrev pub PairExists : Program → ℕ → ℕ → Type 0
PairExists program m i = IsUpTo (length program.methods) m × IsUpTo (length (method_of program m).pairs) i

-- the start of each pair of a sound program is well formed
abbrev pub EntriesFit : Type 0
EntriesFit = (defs : Defs) (program : Program) → IsSoundProgram defs program → (m i : ℕ) → PairExists program m i → StateFits defs program (entry program m i)

-- the start of every pair is safe for n steps
abbrev pub EntriesAreSafe : Defs → Program → ℕ → Type 0
EntriesAreSafe defs program n = (m i : ℕ) → PairExists program m i → IsSafe defs program n (entry program m i)

-- a right step keeps safety: a state is safe for one more step than its premises and the starts of all pairs, where
-- the disjuncts of a state take no step
abbrev pub RightStepsKeepSafe : Type 0
RightStepsKeepSafe = (defs : Defs) (program : Program) → IsSoundProgram defs program → (n : ℕ) → EntriesAreSafe defs program n →
    (at : At) (rule : PRule) (premises : List At) → IsRightStep defs program (Entailed defs) rule at premises →
    All (IsSafe defs program n) premises → All (IsSafe defs program (suc n)) premises → IsSafe defs program (suc n) at

-- a state is concluded by a tree of right steps
mutual
  pub data Concluded (defs : Defs) (program : Program) : At → Type 0 where
    by : (at : At) (rule : PRule) (premises : List At) → IsRightStep defs program (Entailed defs) rule at premises → AllConcluded defs program premises → Concluded defs program at

  pub data AllConcluded (defs : Defs) (program : Program) : List At → Type 0 where
    nothing : AllConcluded defs program []
    more : {p : At} {ps : List At} → Concluded defs program p → AllConcluded defs program ps → AllConcluded defs program (p ∷ ps)

-- where the start of every pair is concluded, each concluded state is safe for every number of steps
abbrev pub ConcludedStatesAreSafe : Type 0
ConcludedStatesAreSafe = (defs : Defs) (program : Program) → IsSoundProgram defs program →
    ((m i : ℕ) → PairExists program m i → Concluded defs program (entry program m i)) →
    (at : At) → Concluded defs program at → (n : ℕ) → IsSafe defs program n at
