-- Where a rule applies by the next instruction.
use Rattle.std.proofs.Common.{◌≡◌, Some, refl, sym, ◌∙◌, subst}
use Rattle.hs_heap.specs.declared.definitions.Defs.{Defs}
use Rattle.hs_core.specs.declared.instr.Instr.{Instr}
use Rattle.hs_core.specs.declared.instr.Instr.TheVariants as instr
use Rattle.hs_core.specs.declared.program.Program.{Program}
use Rattle.hs_core.specs.declared.state.At.{At}
use Rattle.hs_core.specs.declared.state.PRule.{PRule}
use Rattle.hs_core.specs.declared.state.PRule.TheVariants as rule
use Rattle.hs_core.specs.Sound.{IsSoundProgram, InstrFits}
use Rattle.hs_program_rules.specs.States.{StateFits, method_at, instruction_at}
use Rattle.hs_program_rules.specs.Table.{AppliesTo, HasForm}
use Rattle.hs_prule.specs.Steps.{IsApplied, IsCallThere}

-- the next instruction fits its method
pub instr_fits : (defs : Defs) (program : Program) (at : At) → IsSoundProgram defs program → StateFits defs program at → (i : Instr) → instruction_at program at ≡ Some i → InstrFits defs program (method_at program at) at.point i
instr_fits defs program at sound fits i is = (sound.methods at.method fits.method).code at.point i is

there_by : (defs : Defs) (program : Program) (at : At) (i : Instr) → InstrFits defs program (method_at program at) at.point i → IsCallThere program i
there_by defs program at (instr.Assign to term) f = tt
there_by defs program at (instr.New to kind args) f = tt
there_by defs program at (instr.Get to slot kind field) f = tt
there_by defs program at (instr.Set slot kind field from) f = tt
there_by defs program at (instr.Branch condition other) f = tt
there_by defs program at (instr.Jump target) f = tt
there_by defs program at (instr.Call to method args) f = f.0
there_by defs program at (instr.Return from) f = tt

pub call_there : (defs : Defs) (program : Program) (at : At) → IsSoundProgram defs program → StateFits defs program at → (i : Instr) → instruction_at program at ≡ Some i → IsCallThere program i
call_there defs program at sound fits i is = there_by defs program at i (instr_fits defs program at sound fits i is)

one_instr : {i j : Instr} → Some i ≡ Some j → i ≡ j
one_instr e = cc

module _ (program : Program) (at : At) (r : PRule) where
  -- what applies applies by the next instruction
  pub applies_by : (i : Instr) → instruction_at program at ≡ Some i → AppliesTo program at r → IsApplied program at r i
  applies_by i is a =
      let same : a.instr ≡ i = one_instr (sym a.is ∙ is) in
      subst (IsApplied program at r) same (record { simple = a.simple; is = a.is; rule_of = a.rule_of; held = a.held })

  pub applied_applies : (i : Instr) → IsApplied program at r i → AppliesTo program at r
  applied_applies i a = record { simple = a.simple; instr = i; is = a.is; rule_of = a.rule_of; held = a.held }

-- every rule but Or goes by the instruction
pub form_is : (program : Program) (at : At) (r : PRule) → ¬ (r ≡ rule.Or) → HasForm program at r ≡ AppliesTo program at r
form_is program at rule.Or n = absurd (n refl)
form_is program at rule.Assign n = refl
form_is program at rule.New n = refl
form_is program at rule.Get n = refl
form_is program at rule.Set n = refl
form_is program at rule.Branch n = refl
form_is program at rule.Jump n = refl
form_is program at (rule.Call i) n = refl
form_is program at rule.Return n = refl
