-- What is found at a state: its rule with the proof of its goal, or why there is none.
use Rattle.std.specs.Prelude.{◌≡◌, ℕ, ◌≤◌, List, ◌∷◌, length, Option, Some, None}
use Rattle.hs_heap.specs.declared.formula.Formula.{Formula}
use Rattle.hs_heap.specs.declared.definitions.Defs.{Defs}
use Rattle.hs_goal.specs.declared.goal.Goal.{Goal}
use Rattle.hs_goal.specs.declared.rule.Limits.{Limits}
use Rattle.hs_goal.specs.Classes.{IsSimple}
use Rattle.hs_core.specs.declared.instr.Instr.{Instr}
use Rattle.hs_core.specs.declared.instr.Instr.TheVariants as instr
use Rattle.hs_core.specs.declared.program.Program.{Program}
use Rattle.hs_core.specs.declared.state.At.{At}
use Rattle.hs_core.specs.declared.state.PRule.{PRule}
use Rattle.hs_core.specs.declared.state.PRule.TheVariants as rule
use Rattle.hs_core.specs.Machine.{method_of}
use Rattle.hs_core.specs.Sound.{IsSoundProgram}
use Rattle.hs_core.specs.Set.{IsSet}
use Rattle.hs_erule.specs.declared.step.Proof.{Proof}
use Rattle.hs_steps.specs.Steps.{IsProofOf}
use Rattle.hs_steps.specs.Joined.{residue_shown}
use Rattle.hs_search.specs.Answer.{derivations_of, IsCause}
use Rattle.hs_program_rules.specs.States.{instruction_at, StateFits}
use Rattle.hs_program_rules.specs.Table.{IsRuleOf, HasForm, goal_of, GoalIsLow}
use Rattle.hs_program_fits.specs.Prepared.{IsPrepared}
use Rattle.hs_verify.specs.declared.choosing.Choice.{Choice}
use Rattle.hs_verify.specs.declared.choosing.Choice.TheVariants as choice
use Rattle.hs_verify.specs.declared.asking.Asked.{Asked}
use Rattle.hs_verify.specs.declared.asking.Asked.TheVariants as asked
use Rattle.hs_verify.specs.declared.finding.Found.{Found}
use Rattle.hs_verify.specs.declared.finding.Found.TheVariants as found
use Rattle.hs_verify.specs.Tree.{Misses, PassesOver, IsNoCall, IsStuck, IsCrowded}

-- ---- the rules of a state

-- a well-formed prepared state of a sound set program
pub record IsReady (program : Program) (at : At) : Type 0 where
  pub defs : Defs
  pub sound : IsSoundProgram defs program
  pub set : IsSet program
  pub fits : StateFits defs program at
  pub prepared : IsPrepared program at

-- the state is simple, and calls a method of so many pairs, each of which has its rule
pub record Calls (program : Program) (at : At) (pairs : ℕ) : Type 0 where
  pub simple : IsSimple at.state.formula
  pub to : Option ℕ
  pub method : ℕ
  pub args : List ℕ
  pub is : instruction_at program at ≡ Some (instr.Call to method args)
  pub each : pairs ≡ length (method_of program method).pairs
  pub forms : (i : ℕ) → 1 ≤ i → i ≤ pairs → HasForm program at (rule.Call i)

-- the rule of an instruction, or how many pairs the method has that it calls
abbrev pub IsChoiceAt : Program → Instr → Choice → Type 0
IsChoiceAt program i (choice.By r) = IsRuleOf program i r × IsNoCall r
IsChoiceAt program i (choice.Pairs n) =
    (to : Option ℕ) × (method : ℕ) × (args : List ℕ) × (i ≡ instr.Call to method args) × (n ≡ length (method_of program method).pairs)

-- the one rule of a state, or how many pairs it can be by
abbrev pub IsChoice : Program → At → Choice → Type 0
IsChoice program at (choice.By r) = HasForm program at r × IsNoCall r
IsChoice program at (choice.Pairs n) = Calls program at n

module _ (defs : Defs) (limits : Limits) where
  -- ---- the goal of a rule

  -- the first derivation of the goal, which is a proof of it
  pub record IsFirst (g : Goal) (p : Proof) : Type 0 where
    pub others : List Proof
    pub derivations : derivations_of defs limits g ≡ p ∷ others
    pub right : IsProofOf defs g (residue_shown p) p

  -- where a goal is asked its first derivation is there, and else none
  abbrev pub AreFirst : Option Goal → Option Proof → Type 0
  AreFirst None None = Unit {0}
  AreFirst None (Some p) = ⊥
  AreFirst (Some g) None = ⊥
  AreFirst (Some g) (Some p) = IsFirst g p

  -- the first derivation of a goal, or why there is none
  abbrev pub IsSearched : Goal → Asked → Type 0
  IsSearched g (asked.Proved None) = ⊥
  IsSearched g (asked.Proved (Some p)) = IsFirst g p
  IsSearched g (asked.Missed cause) = IsCause defs limits g cause
  IsSearched g asked.Crowded = ⊥

  module _ (program : Program) (at : At) where
    -- the rule can be taken, with this proof of its goal
    pub record IsProved (r : PRule) (proof : Option Proof) : Type 0 where
      pub low : GoalIsLow (goal_of defs program at r)
      pub first : AreFirst (goal_of defs program at r) proof

    abbrev pub IsAsked : PRule → Asked → Type 0
    IsAsked r (asked.Proved proof) = IsProved r proof
    IsAsked r (asked.Missed cause) = Misses defs program limits at r cause
    IsAsked r asked.Crowded = ¬ (GoalIsLow (goal_of defs program at r))

    -- ---- the rule that is taken

    -- at a call all pairs before it were passed over
    pub record IsTaken (r : PRule) (proof : Option Proof) : Type 0 where
      pub form : HasForm program at r
      pub passes : PassesOver defs program limits at r
      pub proved : IsProved r proof

    abbrev pub IsFound : Found → Type 0
    IsFound (found.Taken r proof) = IsTaken r proof
    IsFound (found.Stuck causes) = IsStuck defs program limits at causes
    IsFound found.Crowded = IsCrowded defs program limits at

-- the residue that a proof shows, if there is one
abbrev pub residue_by : Option Proof → Option Formula
residue_by None = None
residue_by (Some p) = Some (residue_shown p)
