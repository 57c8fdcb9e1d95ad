-- The rules of a state by its instruction.
use Rattle.std.proofs.Common.{◌≡◌, ◌≤◌, length, Some, sym, ap, ◌∙◌, subst, arith}
use Rattle.hs_goal.specs.Classes.{IsSimple}
use Rattle.hs_core.specs.declared.instr.Instr.{Instr}
use Rattle.hs_core.specs.declared.program.Program.{Program}
use Rattle.hs_core.specs.declared.state.At.{At}
use Rattle.hs_core.specs.declared.state.PRule.{PRule}
use Rattle.hs_core.specs.declared.state.PRule.TheVariants as rule
use Rattle.hs_core.specs.Machine.{method_of}
use Rattle.hs_program_rules.specs.States.{instruction_at}
use Rattle.hs_program_rules.specs.Table.{IsRuleOf, HasForm}
use Rattle.hs_program_fits.specs.Laws.{HasRules, SimpleStatesHaveRules}
use Rattle.hs_verify.specs.declared.choosing.Choice.{Choice}
use Rattle.hs_verify.specs.declared.choosing.Choice.TheVariants as choice
use Rattle.hs_verify.specs.Asked.{IsReady, IsChoice, IsChoiceAt}

module _ (program : Program) (at : At) where
  choice_by : IsSimple at.state.formula → (i : Instr) → instruction_at program at ≡ Some i → ((r : PRule) → IsRuleOf program i r → HasForm program at r) → (c : Choice) → IsChoiceAt program i c → IsChoice program at c
  choice_by simple i is forms (choice.By r) h = (forms r h.0, h.1)
  choice_by simple i is forms (choice.Pairs n) h = record {
    simple = simple;
    to = h.0;
    method = h.1;
    args = h.2;
    is = is ∙ ap Some h.3;
    each = h.4;
    forms = λ k first few.
        let less : k ≤ length (method_of program h.1).pairs = omega (arith, h.4) in
        forms (rule.Call k) (subst (λ j. IsRuleOf program j (rule.Call k)) (sym h.3) (first, less));
  }

  pub chosen : SimpleStatesHaveRules → IsReady program at → IsSimple at.state.formula → (i : Instr) → instruction_at program at ≡ Some i → (c : Choice) → IsChoiceAt program i c → IsChoice program at c
  chosen law ready simple i is c h =
      let rules : HasRules program at = law ready.defs program ready.sound ready.set at ready.fits ready.prepared simple in
      let same : rules.instr ≡ i = cc (rules.is, is) in
      choice_by simple i is (λ r q. (rules.rules r).1 (subst (λ j. IsRuleOf program j r) (sym same) q)) c h
