-- The goal of a rule, by the instruction alone.
use Rattle.std.proofs.Common.{◌≡◌, ℕ, ◌≤◌, ◌^◌, List, length, Option, Some, None, Result, Ok, Err, refl, sym, ◌∙◌, ap, subst}
use Rattle.hs_heap.specs.declared.definitions.Defs.{Defs}
use Rattle.hs_goal.specs.declared.goal.Goal.{Goal}
use Rattle.hs_goal.specs.Classes.{IsSimple}
use Rattle.hs_sides.specs.declared.error.RuleError.{RuleError}
use Rattle.hs_sides.specs.declared.error.RuleError.TheVariants.{NotApplicable, Memory}
use Rattle.hs_sides.specs.Answers.{IsGiven}
use Rattle.hs_core.specs.declared.instr.Instr.{Instr}
use Rattle.hs_core.specs.declared.instr.Instr.TheVariants as instr
use Rattle.hs_core.specs.declared.program.Program.{Program}
use Rattle.hs_core.specs.declared.state.At.{At}
use Rattle.hs_core.specs.declared.state.PRule.{PRule}
use Rattle.hs_core.specs.declared.state.PRule.TheVariants as rule
use Rattle.hs_core.specs.Machine.{method_of}
use Rattle.hs_core.specs.Sound.{IsUpTo, IsSoundProgram}
use Rattle.hs_program_rules.specs.States.{StateFits, pair_of, instruction_at}
use Rattle.hs_program_rules.specs.Table.{AppliesTo, GoalIsLow, IsRuleOf, goal_by, goal_of}
use Rattle.hs_program_rules.proofs.Matched.{Matched, assigns, makes, gets, sets, branches, jumps, calls, returns, matched}
use Rattle.hs_program_rules.proofs.Pairs.{pair_fits}
use Rattle.hs_program_parts.specs.Pairs.{CanBeCalled}
use Rattle.hs_prule.specs.Judged.{Asks, IsObligation}
use Rattle.hs_prule.specs.Steps.{called, goal_for, some_goal, IsApplied}
use Rattle.hs_prule.proofs.Applied.{instr_fits, applied_applies, form_is}

goal_matched : (defs : Defs) (program : Program) (at : At) (i : Instr) (r : PRule) → Matched program i r → goal_by defs program at (Some i) r ≡ goal_for defs program at (called r) i
goal_matched defs program at _ _ (assigns to term) = refl
goal_matched defs program at _ _ (makes to kind args) = refl
goal_matched defs program at _ _ (gets to slot kind field) = refl
goal_matched defs program at _ _ (sets slot kind field from) = refl
goal_matched defs program at _ _ (branches condition other) = refl
goal_matched defs program at _ _ (jumps target) = refl
goal_matched defs program at _ _ (calls to method args i there) = refl
goal_matched defs program at _ _ (returns from) = refl

-- the goal of the rule is that of the instruction
pub goal_is : (defs : Defs) (program : Program) (at : At) (r : PRule) (i : Instr) → IsApplied program at r i → goal_of defs program at r ≡ goal_for defs program at (called r) i
goal_is defs program at r i a = ap (λ o. goal_by defs program at o r) a.is ∙ goal_matched defs program at i r (matched program i r a.rule_of)

pub goal_or : (defs : Defs) (program : Program) (at : At) → goal_of defs program at rule.Or ≡ None
goal_or defs program at = by (instruction_at program at)
  where
    by : (o : Option Instr) → goal_by defs program at o rule.Or ≡ None
    by None = refl
    by (Some (instr.Assign to term)) = refl
    by (Some (instr.New to kind args)) = refl
    by (Some (instr.Get to slot kind field)) = refl
    by (Some (instr.Set slot kind field from)) = refl
    by (Some (instr.Branch condition other)) = refl
    by (Some (instr.Jump target)) = refl
    by (Some (instr.Call to method args)) = refl
    by (Some (instr.Return from)) = refl

-- ---- what is answered

given_same : {A : Type 0} {P Q : Type 0} (x y : A) (found : Result A RuleError) → (P → Q) → (Q → P) → x ≡ y → IsGiven P x found → IsGiven Q y found
given_same x y (Ok z) f g e (p, is) = (f p, is ∙ e)
given_same x y (Err NotApplicable) f g e n = λ q. n (g q)
given_same x y (Err Memory) f g e n = tt

pub some_given : (g : Goal) (found : Result Goal RuleError) → IsGiven (g.next ≤ 2 ^ 30) g found → IsGiven (GoalIsLow (Some g)) (Some g) (some_goal found)
some_given g (Ok x) (low, is) = (low, ap (λ y. Some y) is)
some_given g (Err NotApplicable) n = n
some_given g (Err Memory) n = tt

pub goal_answer : (defs : Defs) (program : Program) (at : At) (k : ℕ) (i j : Instr) (g h : Goal) (found : Result Goal RuleError) (result : Result (Option Goal) RuleError) →
    i ≡ j → goal_for defs program at k j ≡ Some g → h ≡ g → IsGiven (h.next ≤ 2 ^ 30) h found → result ≡ some_goal found →
    IsGiven (GoalIsLow (goal_for defs program at k i)) (goal_for defs program at k i) result
goal_answer defs program at k i j g h found result is e same given r =
    let here : IsGiven (g.next ≤ 2 ^ 30) g found = subst (λ (x : Goal). IsGiven (x.next ≤ 2 ^ 30) x found) same given in
    subst (λ (q : Option Goal). IsGiven (GoalIsLow q) q result) (sym (ap (goal_for defs program at k) is ∙ e))
    (subst (λ (q : Result (Option Goal) RuleError). IsGiven (GoalIsLow (Some g)) (Some g) q) (sym r) (some_given g found here))

module _ (defs : Defs) (program : Program) (at : At) where
  -- by Or
  pub or_answer : (r : PRule) (found : Result (Option Goal) RuleError) → r ≡ rule.Or → IsGiven (¬ (IsSimple at.state.formula)) None found → IsObligation defs program at r found
  or_answer r found is given = subst (λ q. IsObligation defs program at q found) (sym is) (answer found given)
    where
      answer : (found : Result (Option Goal) RuleError) → IsGiven (¬ (IsSimple at.state.formula)) None found → IsObligation defs program at rule.Or found
      answer (Ok goal) (many, e) = (record { form = many; low = subst GoalIsLow (sym (goal_or defs program at)) tt }, e ∙ sym (goal_or defs program at))
      answer (Err NotApplicable) n = λ a. n a.form
      answer (Err Memory) n = tt

  -- where the rule does not apply
  pub not_answer : (r : PRule) → ¬ (r ≡ rule.Or) → ¬ (AppliesTo program at r) → ¬ (Asks defs program at r)
  not_answer r other fails = λ a. fails (subst (λ A. A) (form_is program at r other) a.form)

  -- by the instruction
  pub instr_answer : (r : PRule) (i : Instr) (found : Result (Option Goal) RuleError) → ¬ (r ≡ rule.Or) → IsApplied program at r i →
      IsGiven (GoalIsLow (goal_for defs program at (called r) i)) (goal_for defs program at (called r) i) found → IsObligation defs program at r found
  instr_answer r i (Ok goal) other applied (low, e) = (
    record {
      form = subst (λ A. A) (sym (form_is program at r other)) (applied_applies program at r i applied);
      low = subst GoalIsLow (sym (goal_is defs program at r i applied)) low;
    },
    e ∙ sym (goal_is defs program at r i applied),
  )
  instr_answer r i (Err NotApplicable) other applied n = λ a. n (subst GoalIsLow (goal_is defs program at r i applied) a.low)
  instr_answer r i (Err Memory) other applied n = tt

-- ---- pairs of sound programs can be called

pub able_at : (defs : Defs) (program : Program) → IsSoundProgram defs program → (k i : ℕ) → IsUpTo (length program.methods) k → IsUpTo (length (method_of program k).pairs) i →
    CanBeCalled (method_of program k) (pair_of (method_of program k) i)
able_at defs program sound k i there pair = record { defs = defs; fits = pair_fits defs program sound k i there pair }

-- a call that applies names a pair of its method, with an argument for each parameter
pub record CallIs (program : Program) (r : PRule) (k : ℕ) (args : List ℕ) : Type 0 where
  pub there : IsUpTo (length program.methods) k
  pub pair : IsUpTo (length (method_of program k).pairs) (called r)
  pub arity : length args ≡ (method_of program k).params

place_of : (program : Program) (to : Option ℕ) (k : ℕ) (args : List ℕ) (r : PRule) → IsRuleOf program (instr.Call to k args) r → IsUpTo (length (method_of program k).pairs) (called r)
place_of program to k args rule.Or e = absurd e
place_of program to k args rule.Assign e = absurd e
place_of program to k args rule.New e = absurd e
place_of program to k args rule.Get e = absurd e
place_of program to k args rule.Set e = absurd e
place_of program to k args rule.Branch e = absurd e
place_of program to k args rule.Jump e = absurd e
place_of program to k args (rule.Call i) e = e
place_of program to k args rule.Return e = absurd e

pub call_is : (defs : Defs) (program : Program) (at : At) → IsSoundProgram defs program → StateFits defs program at → (r : PRule) (to : Option ℕ) (k : ℕ) (args : List ℕ) →
    IsApplied program at r (instr.Call to k args) → CallIs program r k args
call_is defs program at sound fits r to k args a =
    let f = instr_fits defs program at sound fits (instr.Call to k args) a.is in
    record { there = f.0; pair = place_of program to k args r a.rule_of; arity = f.2 }
