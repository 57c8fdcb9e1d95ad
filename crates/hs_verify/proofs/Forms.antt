-- Which rules apply to one state: one, and at a call one for each pair.
use Rattle.std.proofs.Common.{◌≡◌, ◌⊎◌, ℕ, List, Option, Some, refl, sym, ◌∙◌, inl, inr, subst}
use Rattle.hs_goal.specs.Classes.{IsSimple}
use Rattle.hs_rules.specs.Parts.{IsPlace}
use Rattle.hs_core.specs.declared.instr.Instr.{Instr}
use Rattle.hs_core.specs.declared.instr.Instr.TheVariants as instr
use Rattle.hs_core.specs.declared.program.Program.{Program}
use Rattle.hs_core.specs.declared.state.At.{At}
use Rattle.hs_core.specs.declared.state.PRule.{PRule}
use Rattle.hs_core.specs.declared.state.PRule.TheVariants as rule
use Rattle.hs_core.specs.Machine.{method_of}
use Rattle.hs_program_rules.specs.States.{instruction_at}
use Rattle.hs_program_rules.specs.Table.{IsRuleOf, AppliesTo, HasForm}

-- a state is not simple, or the rule is that of its instruction
pub form_read : (program : Program) (at : At) (r : PRule) → HasForm program at r →
    ((r ≡ rule.Or) × ¬ (IsSimple at.state.formula)) ⊎ AppliesTo program at r
form_read program at rule.Or h = inl (refl, h)
form_read program at rule.Assign h = inr h
form_read program at rule.New h = inr h
form_read program at rule.Get h = inr h
form_read program at rule.Set h = inr h
form_read program at rule.Branch h = inr h
form_read program at rule.Jump h = inr h
form_read program at (rule.Call i) h = inr h
form_read program at rule.Return h = inr h

-- the rules of an instruction
abbrev IsOneOf : Program → Instr → PRule → Type 0
IsOneOf program (instr.Assign to term) r = r ≡ rule.Assign
IsOneOf program (instr.New to kind args) r = r ≡ rule.New
IsOneOf program (instr.Get to slot kind field) r = r ≡ rule.Get
IsOneOf program (instr.Set slot kind field from) r = r ≡ rule.Set
IsOneOf program (instr.Branch condition other) r = r ≡ rule.Branch
IsOneOf program (instr.Jump target) r = r ≡ rule.Jump
IsOneOf program (instr.Call to method args) r = (i : ℕ) × (r ≡ rule.Call i) × IsPlace i (method_of program method).pairs
IsOneOf program (instr.Return from) r = r ≡ rule.Return

pub rule_read : (program : Program) (i : Instr) (r : PRule) → IsRuleOf program i r → IsOneOf program i r
rule_read program (instr.Assign to term) rule.Assign h = refl
rule_read program (instr.New to kind args) rule.New h = refl
rule_read program (instr.Get to slot kind field) rule.Get h = refl
rule_read program (instr.Set slot kind field from) rule.Set h = refl
rule_read program (instr.Branch condition other) rule.Branch h = refl
rule_read program (instr.Jump target) rule.Jump h = refl
rule_read program (instr.Call to method args) (rule.Call i) h = (i, refl, h)
rule_read program (instr.Return from) rule.Return h = refl
rule_read program _ _ h = absurd h

-- both are by pairs of the called method
abbrev pub AreCalls : PRule → PRule → Type 0
AreCalls r s = (i : ℕ) × (r ≡ rule.Call i) × ((j : ℕ) × (s ≡ rule.Call j))

of_instruction : (program : Program) (i : Instr) (r s : PRule) → IsOneOf program i r → IsOneOf program i s → (r ≡ s) ⊎ AreCalls r s
of_instruction program (instr.Assign to term) r s h k = inl (h ∙ sym k)
of_instruction program (instr.New to kind args) r s h k = inl (h ∙ sym k)
of_instruction program (instr.Get to slot kind field) r s h k = inl (h ∙ sym k)
of_instruction program (instr.Set slot kind field from) r s h k = inl (h ∙ sym k)
of_instruction program (instr.Branch condition other) r s h k = inl (h ∙ sym k)
of_instruction program (instr.Jump target) r s h k = inl (h ∙ sym k)
of_instruction program (instr.Call to method args) r s h k = inr (h.0, h.1, (k.0, k.1))
of_instruction program (instr.Return from) r s h k = inl (h ∙ sym k)

one_applies : (program : Program) (at : At) (r s : PRule) → AppliesTo program at r → AppliesTo program at s → (r ≡ s) ⊎ AreCalls r s
one_applies program at r s h k =
    let same : h.instr ≡ k.instr = cc (h.is, k.is) in
    of_instruction program k.instr r s (rule_read program k.instr r (subst (λ i. IsRuleOf program i r) same h.rule_of)) (rule_read program k.instr s k.rule_of)

-- two rules that apply are one, or both are calls
pub one_form : (program : Program) (at : At) (r s : PRule) → HasForm program at r → HasForm program at s → (r ≡ s) ⊎ AreCalls r s
one_form program at r s h k =
    elim (form_read program at r h) [
      | inl p ↦ elim (form_read program at s k) [ inl q ↦ inl (p.0 ∙ sym q.0) | inr q ↦ absurd (p.1 q.simple) ]
      | inr p ↦ elim (form_read program at s k) [ inl q ↦ absurd (q.1 p.simple) | inr q ↦ one_applies program at r s p q ]
    ]

-- a rule at a call is that of a pair
pub call_form : (program : Program) (at : At) (to : Option ℕ) (method : ℕ) (args : List ℕ) → IsSimple at.state.formula → instruction_at program at ≡ Some (instr.Call to method args) →
    (r : PRule) → HasForm program at r → (i : ℕ) × (r ≡ rule.Call i) × IsPlace i (method_of program method).pairs
call_form program at to method args simple is r h =
    elim (form_read program at r h) [
      | inl p ↦ absurd (p.1 simple)
      | inr p ↦ let same : p.instr ≡ instr.Call to method args = cc (p.is, is) in
          rule_read program (instr.Call to method args) r (subst (λ i. IsRuleOf program i r) same p.rule_of)
    ]
