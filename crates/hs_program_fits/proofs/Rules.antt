-- What is shown by the instruction, or of a state that is taken apart, is so for each rule that applies.
use Rattle.std.proofs.Common.{◌≡◌, Option, Some, None, refl, sym, subst}
use Rattle.hs_heap.specs.declared.formula.Formula.{Formula}
use Rattle.hs_heap.specs.declared.definitions.Defs.{Defs}
use Rattle.hs_goal.specs.declared.goal.Goal.{Goal}
use Rattle.hs_core.specs.declared.instr.Instr.{Instr}
use Rattle.hs_core.specs.declared.instr.Instr.TheVariants as instr
use Rattle.hs_core.specs.declared.state.PRule.{PRule}
use Rattle.hs_core.specs.declared.state.PRule.TheVariants as rule
use Rattle.hs_core.specs.declared.program.Program.{Program}
use Rattle.hs_core.specs.declared.state.At.{At}
use Rattle.hs_program_rules.specs.States.{method_at, instruction_at}
use Rattle.hs_program_rules.specs.Table.{ReadsHeld, IsRuleOf, AppliesTo, HasForm, goal_by, premises_by, opened_states}
use Rattle.hs_program_rules.proofs.Matched.{Matched, matched}

module _ (defs : Defs) (program : Program) (at : At) where
  -- a state that is taken apart has the opened states as premises, and asks no goal
  pub or_premises : (o : Option Instr) (residue : Formula) → premises_by defs program at o rule.Or residue ≡ opened_states defs program at at.state.formula.cases
  or_premises None residue = refl
  or_premises (Some (instr.Assign to term)) residue = refl
  or_premises (Some (instr.New to kind args)) residue = refl
  or_premises (Some (instr.Get to slot kind field)) residue = refl
  or_premises (Some (instr.Set slot kind field from)) residue = refl
  or_premises (Some (instr.Branch condition other)) residue = refl
  or_premises (Some (instr.Jump target)) residue = refl
  or_premises (Some (instr.Call to method args)) residue = refl
  or_premises (Some (instr.Return from)) residue = refl

  abbrev no_goal : Option Goal
  no_goal = None

  pub or_goal : (o : Option Instr) → goal_by defs program at o rule.Or ≡ no_goal
  or_goal None = refl
  or_goal (Some (instr.Assign to term)) = refl
  or_goal (Some (instr.New to kind args)) = refl
  or_goal (Some (instr.Get to slot kind field)) = refl
  or_goal (Some (instr.Set slot kind field from)) = refl
  or_goal (Some (instr.Branch condition other)) = refl
  or_goal (Some (instr.Jump target)) = refl
  or_goal (Some (instr.Call to method args)) = refl
  or_goal (Some (instr.Return from)) = refl

module _ (program : Program) where
  -- no instruction has the rule that takes a state apart
  pub or_is_none : (i : Instr) → IsRuleOf program i rule.Or → ⊥
  or_is_none (instr.Assign to term) e = e
  or_is_none (instr.New to kind args) e = e
  or_is_none (instr.Get to slot kind field) e = e
  or_is_none (instr.Set slot kind field from) e = e
  or_is_none (instr.Branch condition other) e = e
  or_is_none (instr.Jump target) e = e
  or_is_none (instr.Call to method args) e = e
  or_is_none (instr.Return from) e = e

  module _ (at : At) (C : PRule → Option Instr → Type 0) (apart : (o : Option Instr) → C rule.Or o)
      (each : (i : Instr) (r : PRule) → Matched program i r → AppliesTo program at r → instruction_at program at ≡ Some i → ReadsHeld (method_at program at) at.state.slots i → C r (Some i)) where
    by_instruction : (r : PRule) → AppliesTo program at r → C r (instruction_at program at)
    by_instruction r applies = subst (C r) (sym applies.is) (each applies.instr r (matched program applies.instr r applies.rule_of) applies applies.is applies.held)

    pub by_rule : (r : PRule) → HasForm program at r → C r (instruction_at program at)
    by_rule rule.Or form = apart (instruction_at program at)
    by_rule rule.Assign form = by_instruction rule.Assign form
    by_rule rule.New form = by_instruction rule.New form
    by_rule rule.Get form = by_instruction rule.Get form
    by_rule rule.Set form = by_instruction rule.Set form
    by_rule rule.Branch form = by_instruction rule.Branch form
    by_rule rule.Jump form = by_instruction rule.Jump form
    by_rule (rule.Call i) form = by_instruction (rule.Call i) form
    by_rule rule.Return form = by_instruction rule.Return form
