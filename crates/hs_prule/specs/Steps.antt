-- The goal and the further premises by the instruction alone.
use Rattle.std.specs.Prelude.{◌≡◌, ℕ, suc, List, [], ◌∷◌, length, Option, Some, None, Result, Ok, Err}
use Rattle.hs_heap.specs.declared.formula.Formula.{Formula}
use Rattle.hs_heap.specs.declared.definitions.Defs.{Defs}
use Rattle.hs_pure.specs.declared.pure.Pure.TheVariants as pure_of
use Rattle.hs_pure.specs.Rename.{renamed}
use Rattle.hs_goal.specs.declared.goal.Goal.{Goal}
use Rattle.hs_goal.specs.Classes.{IsSimple}
use Rattle.hs_heap.specs.Renamed.{renamed_formula}
use Rattle.hs_sides.specs.declared.error.RuleError.{RuleError}
use Rattle.hs_sides.specs.declared.error.RuleError.TheVariants.{Memory}
use Rattle.hs_core.specs.declared.instr.Instr.{Instr}
use Rattle.hs_core.specs.declared.instr.Instr.TheVariants as instr
use Rattle.hs_core.specs.declared.program.Pair.{Pair}
use Rattle.hs_core.specs.declared.program.Method.{Method}
use Rattle.hs_core.specs.declared.program.Program.{Program}
use Rattle.hs_core.specs.declared.state.At.{At}
use Rattle.hs_core.specs.declared.state.PRule.{PRule}
use Rattle.hs_core.specs.declared.state.PRule.TheVariants as rule
use Rattle.hs_core.specs.Machine.{method_of}
use Rattle.hs_core.specs.Sound.{IsUpTo}
use Rattle.hs_program_rules.specs.States.{pair_of, method_at, instruction_at}
use Rattle.hs_program_rules.specs.Parts.{goes, asked, with_held, conjuncts, return_renaming}
use Rattle.hs_program_rules.specs.Table.{IsRuleOf, ReadsHeld, node_goal, call_goal, return_goal, new_var, with_node, with_conjuncts, over_variables, assigned, after_get, after_set, after_call_of}

-- the pair of a rule of calls
abbrev pub called : PRule → ℕ
called (rule.Call i) = i
called _ = 0

module _ (defs : Defs) (program : Program) (at : At) (i : ℕ) where
  abbrev pub goal_for : Instr → Option Goal
  goal_for (instr.Assign to term) = None
  goal_for (instr.New to kind args) = None
  goal_for (instr.Get to slot kind field) = Some (node_goal defs at slot kind)
  goal_for (instr.Set slot kind field from) = Some (node_goal defs at slot kind)
  goal_for (instr.Branch condition other) = None
  goal_for (instr.Jump target) = None
  goal_for (instr.Call to method args) = Some (call_goal at (method_of program method) (pair_of (method_of program method) i) args)
  goal_for (instr.Return from) = Some (return_goal program at from)

  abbrev pub premises_for : Instr → Formula → List At
  premises_for (instr.Assign to term) residue =
      goes at (suc at.point) (with_held at.state.slots to (new_var at)) (with_conjuncts defs program at (assigned defs program at term ∷ [])) ∷ []
  premises_for (instr.New to kind args) residue =
      goes at (suc at.point) (with_held at.state.slots to (new_var at)) (with_node defs program at kind args) ∷ []
  premises_for (instr.Get to slot kind field) residue = after_get defs program at to slot kind field residue ∷ []
  premises_for (instr.Set slot kind field from) residue = after_set defs program at slot kind field from residue ∷ []
  premises_for (instr.Branch condition other) residue =
      let c = renamed (over_variables defs program at) condition in
      goes at (suc at.point) at.state.slots (with_conjuncts defs program at (conjuncts c)) ∷ goes at other at.state.slots (with_conjuncts defs program at (pure_of.Not c ∷ [])) ∷ []
  premises_for (instr.Jump target) residue = record at { point = target } ∷ []
  premises_for (instr.Call to method args) residue =
      after_call_of defs program at (method_of program method) (pair_of (method_of program method) i) to args residue ∷ []
  premises_for (instr.Return from) residue = []

-- the state is simple, and the instruction is next there, has the rule, and reads slots that hold variables
pub record IsApplied (program : Program) (at : At) (rule : PRule) (instr : Instr) : Type 0 where
  pub simple : IsSimple at.state.formula
  pub is : instruction_at program at ≡ Some instr
  pub rule_of : IsRuleOf program instr rule
  pub held : ReadsHeld (method_at program at) at.state.slots instr

-- what a call names is there
abbrev pub IsCallThere : Program → Instr → Type 0
IsCallThere program (instr.Call to method args) = IsUpTo (length program.methods) method
IsCallThere program _ = Unit {0}

-- the goal of a return, by the state's method and pair
abbrev pub own_goal : At → Method → Pair → Option ℕ → Goal
own_goal at m p from = asked at at.state.next [] (renamed_formula (return_renaming m from at.state.slots) p.post)

abbrev pub some_goal : Result Goal RuleError → Result (Option Goal) RuleError
some_goal (Ok g) = Ok (Some g)
some_goal (Err e) = Err e

-- one state alone, where there is one
abbrev pub IsAlone : Result At RuleError → Result (List At) RuleError → Type 0
IsAlone (Ok a) (Ok all) = all ≡ a ∷ []
IsAlone (Ok a) (Err e) = e ≡ Memory
IsAlone (Err e) (Ok all) = ⊥
IsAlone (Err e) (Err f) = f ≡ e
