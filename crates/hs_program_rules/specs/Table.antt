-- The table of program rules: where each applies, the goal that it asks, and its further premises.
use Rattle.std.specs.Prelude.{◌≡◌, ℕ, suc, ◌+◌, ◌-◌, ◌≤◌, ◌^◌, List, [], ◌∷◌, ◌++◌, map, length, Option, Some, None, slice_set}
use Rattle.std.specs.List.{All}
use Rattle.hs_pure.specs.declared.var.Var.{Var}
use Rattle.hs_pure.specs.declared.lin.Lin.{Lin}
use Rattle.hs_pure.specs.declared.pure.Pure.{Pure}
use Rattle.hs_pure.specs.declared.pure.Pure.TheVariants as pure_of
use Rattle.hs_pure.specs.Equated.{variable_sum}
use Rattle.hs_pure.specs.Rename.{renamed_lin, renamed}
use Rattle.hs_heap.specs.declared.formula.Disjunct.{Disjunct}
use Rattle.hs_heap.specs.declared.formula.Formula.{Formula}
use Rattle.hs_heap.specs.declared.definitions.Defs.{Defs}
use Rattle.hs_heap.specs.Renamed.{renamed_formula}
use Rattle.hs_goal.specs.declared.goal.Goal.{Goal}
use Rattle.hs_goal.specs.Classes.{IsSimple, the_case}
use Rattle.hs_rules.specs.Parts.{only, plain, opened, IsPlace}
use Rattle.hs_core.specs.declared.instr.Instr.{Instr}
use Rattle.hs_core.specs.declared.instr.Instr.TheVariants as instr
use Rattle.hs_core.specs.declared.program.Pair.{Pair}
use Rattle.hs_core.specs.declared.program.Method.{Method}
use Rattle.hs_core.specs.declared.program.Program.{Program}
use Rattle.hs_core.specs.declared.state.At.{At}
use Rattle.hs_core.specs.declared.state.PRule.{PRule}
use Rattle.hs_core.specs.declared.state.PRule.TheVariants as rule
use Rattle.hs_core.specs.Machine.{numbered, method_of, picked}
use Rattle.hs_core.specs.Set.{reads}
use Rattle.hs_program_rules.specs.States.{Held, number_var, variable_in, IsHeld, pair_of, pair_at, method_at, instruction_at}
use Rattle.hs_program_rules.specs.Parts.{goes, asked, with_held, node_atom, beside, new_fields, conjuncts, all_joined, call_renaming, after_call, result_var, last_vars, variables_in, all_held, result_held, return_renaming}

-- ---- where a rule applies

-- the slots that an instruction of the method reads; a return also hands back the last values of the reference parameters
abbrev pub all_reads : Method → Instr → List ℕ
all_reads m (instr.Return from) = reads (instr.Return from) ++ m.refs
all_reads m i = reads i

-- each slot that the instruction reads holds a variable
abbrev pub ReadsHeld : Method → Held → Instr → Type 0
ReadsHeld m held i = All (IsHeld held) (all_reads m i)

-- the rule is that of the instruction
abbrev pub IsRuleOf : Program → Instr → PRule → Type 0
IsRuleOf program (instr.Assign to term) rule.Assign = Unit {0}
IsRuleOf program (instr.New to kind args) rule.New = Unit {0}
IsRuleOf program (instr.Get to slot kind field) rule.Get = Unit {0}
IsRuleOf program (instr.Set slot kind field from) rule.Set = Unit {0}
IsRuleOf program (instr.Branch condition other) rule.Branch = Unit {0}
IsRuleOf program (instr.Jump target) rule.Jump = Unit {0}
IsRuleOf program (instr.Call to method args) (rule.Call i) = IsPlace i (method_of program method).pairs
IsRuleOf program (instr.Return from) rule.Return = Unit {0}
IsRuleOf program _ _ = ⊥

-- the state is simple, and its next instruction has the rule and reads slots that hold variables
pub record AppliesTo (program : Program) (at : At) (rule : PRule) : Type 0 where
  pub simple : IsSimple at.state.formula
  pub instr : Instr
  pub is : instruction_at program at ≡ Some instr
  pub rule_of : IsRuleOf program instr rule
  pub held : ReadsHeld (method_at program at) at.state.slots instr

-- a state that is not simple is taken apart
abbrev pub HasForm : Program → At → PRule → Type 0
HasForm program at rule.Or = ¬ (IsSimple at.state.formula)
HasForm program at r = AppliesTo program at r

-- ---- the goal

abbrev pub state_vars : At → List ℕ → List Var
state_vars at ks = variables_in at.state.slots ks

-- the state implies a node of the data type at the slot's variable
abbrev pub node_goal : Defs → At → ℕ → ℕ → Goal
node_goal defs at slot kind =
    let fields = new_fields defs kind at.state.next in
    asked at (at.state.next + length fields) fields (plain (node_atom (variable_in at.state.slots slot) kind fields ∷ []) [])

-- it implies the precondition of the pair
abbrev pub call_goal : At → Method → Pair → List ℕ → Goal
call_goal at m p args =
    let r = call_renaming m p (state_vars at args) at.state.next in
    asked at (after_call m p at.state.next) (map r p.logic) (renamed_formula r p.pre)

-- it implies the own postcondition
abbrev pub return_goal : Program → At → Option ℕ → Goal
return_goal program at from = asked at at.state.next [] (renamed_formula (return_renaming (method_at program at) from at.state.slots) (pair_at program at).post)

module _ (defs : Defs) (program : Program) (at : At) where
  abbrev pub goal_by : Option Instr → PRule → Option Goal
  goal_by (Some (instr.Get to slot kind field)) rule.Get = Some (node_goal defs at slot kind)
  goal_by (Some (instr.Set slot kind field from)) rule.Set = Some (node_goal defs at slot kind)
  goal_by (Some (instr.Call to method args)) (rule.Call i) = Some (call_goal at (method_of program method) (pair_of (method_of program method) i) args)
  goal_by (Some (instr.Return from)) rule.Return = Some (return_goal program at from)
  goal_by _ _ = None

  -- the goal that a rule asks, if any
  abbrev pub goal_of : PRule → Option Goal
  goal_of r = goal_by (instruction_at program at) r

-- ---- the further premises

abbrev pub new_var : At → Var
new_var at = number_var at.state.next

module _ (defs : Defs) (program : Program) (at : At) where
  -- one more atom, or more conjuncts, at the end
  abbrev pub with_node : ℕ → List ℕ → Formula
  with_node kind args =
      let d = the_case at.state.formula in
      plain (d.atoms ++ node_atom (new_var at) kind (state_vars at args) ∷ []) d.pure

  abbrev pub with_conjuncts : List Pure → Formula
  with_conjuncts ps =
      let d = the_case at.state.formula in
      plain d.atoms (d.pure ++ ps)

  -- over the variables that slots hold
  abbrev pub over_variables : Var → Var
  over_variables v = variable_in at.state.slots v.number

  abbrev pub assigned : Lin → Pure
  assigned term = pure_of.Eq (variable_sum (new_var at)) (renamed_lin over_variables term)

  abbrev pub opened_states : List Disjunct → List At
  opened_states ds = map (λ d. goes at at.point at.state.slots (only (opened d at.state.next))) ds

  abbrev pub fields_of : ℕ → List Var
  fields_of kind = new_fields defs kind at.state.next

  -- the node is read, and its field's variable is held
  abbrev pub after_get : ℕ → ℕ → ℕ → ℕ → Formula → At
  after_get to slot kind field residue =
      goes at (suc at.point) (with_held at.state.slots to (numbered (fields_of kind) field (number_var 0)))
      (beside (node_atom (variable_in at.state.slots slot) kind (fields_of kind)) residue)

  abbrev pub after_set : ℕ → ℕ → ℕ → ℕ → Formula → At
  after_set slot kind field from residue =
      goes at (suc at.point) at.state.slots
      (beside (node_atom (variable_in at.state.slots slot) kind (slice_set (fields_of kind) (field - 1) (variable_in at.state.slots from))) residue)

  abbrev pub after_call_of : Method → Pair → Option ℕ → List ℕ → Formula → At
  after_call_of m p to args residue =
      let r = call_renaming m p (state_vars at args) at.state.next in
      goes at (suc at.point) (result_held to (r (result_var m)) (all_held at.state.slots (picked args m.refs) (map r (last_vars m))))
      (all_joined residue (renamed_formula r p.post))

  abbrev pub premises_by : Option Instr → PRule → Formula → List At
  premises_by (Some (instr.Assign to term)) rule.Assign residue =
      goes at (suc at.point) (with_held at.state.slots to (new_var at)) (with_conjuncts (assigned term ∷ [])) ∷ []
  premises_by (Some (instr.New to kind args)) rule.New residue =
      goes at (suc at.point) (with_held at.state.slots to (new_var at)) (with_node kind args) ∷ []
  premises_by (Some (instr.Get to slot kind field)) rule.Get residue = after_get to slot kind field residue ∷ []
  premises_by (Some (instr.Set slot kind field from)) rule.Set residue = after_set slot kind field from residue ∷ []
  premises_by (Some (instr.Branch condition other)) rule.Branch residue =
      let c = renamed over_variables condition in
      goes at (suc at.point) at.state.slots (with_conjuncts (conjuncts c)) ∷ goes at other at.state.slots (with_conjuncts (pure_of.Not c ∷ [])) ∷ []
  premises_by (Some (instr.Jump target)) rule.Jump residue = record at { point = target } ∷ []
  premises_by (Some (instr.Call to method args)) (rule.Call i) residue =
      after_call_of (method_of program method) (pair_of (method_of program method) i) to args residue ∷ []
  premises_by _ rule.Or residue = opened_states at.state.formula.cases
  premises_by _ _ residue = []

  -- the further premises, by the residue of the goal where the rule asks one
  abbrev pub premises_of : PRule → Formula → List At
  premises_of r residue = premises_by (instruction_at program at) r residue

-- ---- numbers stay below their bound

abbrev pub GoalIsLow : Option Goal → Type 0
GoalIsLow None = Unit {0}
GoalIsLow (Some g) = g.next ≤ 2 ^ 30

abbrev pub AreLow : List At → Type 0
AreLow ps = All (λ (p : At). p.state.next ≤ 2 ^ 30) ps
