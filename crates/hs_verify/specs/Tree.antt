-- Forward trees: from the start of a pair by the rule of each state to its further premises.
use Rattle.std.specs.Prelude.{◌≡◌, ◌⊎◌, ℕ, suc, ◌≤◌, ◌^◌, List, [], ◌∷◌, ◌++◌, length, Option, Some, None, slice_get}
use Rattle.hs_heap.specs.declared.formula.Formula.{Formula}
use Rattle.hs_heap.specs.declared.definitions.Defs.{Defs}
use Rattle.hs_goal.specs.declared.goal.Goal.{Goal}
use Rattle.hs_goal.specs.declared.rule.Limits.{Limits}
use Rattle.hs_goal.specs.declared.rule.Cause.{Cause}
use Rattle.hs_goal.specs.Classes.{IsSimple}
use Rattle.hs_core.specs.declared.instr.Instr.TheVariants as instr
use Rattle.hs_core.specs.declared.program.Program.{Program}
use Rattle.hs_core.specs.declared.state.At.{At}
use Rattle.hs_core.specs.declared.state.PRule.{PRule}
use Rattle.hs_core.specs.declared.state.PRule.TheVariants as rule
use Rattle.hs_core.specs.Machine.{method_of}
use Rattle.hs_erule.specs.declared.step.Proof.{Proof}
use Rattle.hs_steps.specs.Joined.{residue_shown}
use Rattle.hs_search.specs.Answer.{derivations_of, IsCause}
use Rattle.hs_program_rules.specs.States.{no_formula, instruction_at}
use Rattle.hs_program_rules.specs.Table.{HasForm, goal_of, premises_of, GoalIsLow, AreLow}

-- ---- the goal of a state

module _ (defs : Defs) (limits : Limits) where
  -- the residue of the first derivation of the goal, of at most the rank
  pub record Finds (g : Goal) (residue : Formula) : Type 0 where
    pub first : Proof
    pub others : List Proof
    pub derivations : derivations_of defs limits g ≡ first ∷ others
    pub shown : residue ≡ residue_shown first

  -- the same where a rule asks a goal
  abbrev pub FindsAny : Option Goal → Formula → Type 0
  FindsAny None residue = residue ≡ no_formula
  FindsAny (Some g) residue = Finds g residue

-- the rule is none of a call
abbrev pub IsNoCall : PRule → Type 0
IsNoCall (rule.Call i) = ⊥
IsNoCall _ = Unit {0}

module _ (defs : Defs) (program : Program) (limits : Limits) where
  -- the rule applies and asks a goal for which the search has no derivation, for this cause
  pub record Misses (at : At) (r : PRule) (cause : Cause) : Type 0 where
    pub form : HasForm program at r
    pub goal : Goal
    pub asks : goal_of defs program at r ≡ Some goal
    pub low : goal.next ≤ 2 ^ 30
    pub missed : IsCause defs limits goal cause

  -- the first pairs of the called method are passed over, each for its cause
  abbrev pub PairsMiss : At → List Cause → Type 0
  PairsMiss at causes = (i : ℕ) (cause : Cause) → slice_get causes i ≡ Some cause → Misses at (rule.Call (suc i)) cause

  -- at a call all pairs before the one taken
  abbrev pub PassesOver : At → PRule → Type 0
  PassesOver at (rule.Call i) = (causes : List Cause) × (suc (length causes) ≡ i) × PairsMiss at causes
  PassesOver at _ = Unit {0}

  -- ---- the states of a tree

  -- the rule is taken at the state, and its further premises are below it
  pub record Takes (at : At) (r : PRule) (residue : Formula) : Type 0 where
    pub form : HasForm program at r
    pub passes : PassesOver at r
    pub low : GoalIsLow (goal_of defs program at r)
    pub finds : FindsAny defs limits (goal_of defs program at r) residue
    pub all_low : AreLow (premises_of defs program at r residue)

  -- at a call the goal of no pair has a derivation
  pub record StopsAtCall (at : At) (causes : List Cause) : Type 0 where
    pub simple : IsSimple at.state.formula
    pub to : Option ℕ
    pub method : ℕ
    pub args : List ℕ
    pub is : instruction_at program at ≡ Some (instr.Call to method args)
    pub each : length causes ≡ length (method_of program method).pairs
    pub missed : PairsMiss at causes

  -- or that of a read, a write or a return has none
  abbrev pub IsStuck : At → List Cause → Type 0
  IsStuck at causes = StopsAtCall at causes ⊎ ((r : PRule) × IsNoCall r × ((cause : Cause) × (causes ≡ cause ∷ []) × Misses at r cause))

  -- the rule fails for the bound on new numbers alone
  pub record IsCrowded (at : At) : Type 0 where
    pub taken : PRule
    pub form : HasForm program at taken
    pub passes : PassesOver at taken
    pub over : (¬ (GoalIsLow (goal_of defs program at taken)))
        ⊎ ((residue : Formula) × FindsAny defs limits (goal_of defs program at taken) residue × ¬ (AreLow (premises_of defs program at taken residue)))

  -- from the start of a pair, with the rules of n states taken, in the order of the tree: these states are left, the
  -- premises of a state before what comes after it
  pub data Reaches (start : At) : ℕ → List At → Type 0 where
    begin : Reaches start 0 (start ∷ [])
    onward : {n : ℕ} {at : At} {rest : List At} {r : PRule} {residue : Formula} → Reaches start n (at ∷ rest) → Takes at r residue →
        Reaches start (suc n) (premises_of defs program at r residue ++ rest)
