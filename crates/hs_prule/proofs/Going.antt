-- The further premises of a rule, by the instruction alone.
use Rattle.std.proofs.Common.{◌≡◌, ℕ, zero, suc, ◌+◌, ◌<◌, ◌≤◌, ◌^◌, List, [], ◌∷◌, ◌++◌, length, take, get_or, Option, Some, None, Result, Ok, Err, refl, sym, ◌∙◌, ap, subst, arith}
use Rattle.std.proofs.lemmas.List.Elements.{All-nil, All-cons, All-head, All-tail, All-push}
use Rattle.hs_pure.proofs.Lists.{map-take_more}
use Rattle.hs_heap.specs.declared.formula.Disjunct.{Disjunct}
use Rattle.hs_heap.specs.declared.formula.Formula.{Formula}
use Rattle.hs_heap.specs.declared.definitions.Defs.{Defs}
use Rattle.hs_goal.specs.Shape.{CaseFits}
use Rattle.hs_sides.specs.declared.error.RuleError.{RuleError}
use Rattle.hs_sides.specs.declared.error.RuleError.TheVariants.{NotApplicable, Memory}
use Rattle.hs_sides.specs.Answers.{IsGiven}
use Rattle.hs_core.specs.declared.instr.Instr.{Instr}
use Rattle.hs_core.specs.declared.instr.Instr.TheVariants as instr
use Rattle.hs_core.specs.declared.program.Program.{Program}
use Rattle.hs_core.specs.declared.state.At.{At}
use Rattle.hs_core.specs.declared.state.PRule.{PRule}
use Rattle.hs_core.specs.declared.state.PRule.TheVariants as rule
use Rattle.hs_program_rules.specs.States.{instruction_at}
use Rattle.hs_program_rules.specs.Table.{GoalIsLow, AreLow, premises_by, premises_of, opened_states}
use Rattle.hs_program_rules.proofs.Matched.{Matched, assigns, makes, gets, sets, branches, jumps, calls, returns, matched}
use Rattle.hs_program_parts.specs.Pairs.{CanBeOpened}
use Rattle.hs_prule.specs.After.{opened_state, all_opened}
use Rattle.hs_prule.specs.Judged.{Asks, AreNext}
use Rattle.hs_prule.specs.Steps.{called, goal_for, premises_for, IsApplied, IsAlone}
use Rattle.hs_prule.proofs.Applied.{applies_by, form_is}
use Rattle.hs_prule.proofs.Asking.{goal_is}

premises_matched : (defs : Defs) (program : Program) (at : At) (i : Instr) (r : PRule) (f : Formula) → Matched program i r → premises_by defs program at (Some i) r f ≡ premises_for defs program at (called r) i f
premises_matched defs program at _ _ f (assigns to term) = refl
premises_matched defs program at _ _ f (makes to kind args) = refl
premises_matched defs program at _ _ f (gets to slot kind field) = refl
premises_matched defs program at _ _ f (sets slot kind field from) = refl
premises_matched defs program at _ _ f (branches condition other) = refl
premises_matched defs program at _ _ f (jumps target) = refl
premises_matched defs program at _ _ f (calls to method args i there) = refl
premises_matched defs program at _ _ f (returns from) = refl

premises_are : (defs : Defs) (program : Program) (at : At) (r : PRule) (i : Instr) (f : Formula) → IsApplied program at r i → premises_of defs program at r f ≡ premises_for defs program at (called r) i f
premises_are defs program at r i f a = ap (λ o. premises_by defs program at o r f) a.is ∙ premises_matched defs program at i r f (matched program i r a.rule_of)

premises_or : (defs : Defs) (program : Program) (at : At) (f : Formula) → premises_of defs program at rule.Or f ≡ opened_states defs program at at.state.formula.cases
premises_or defs program at f = by (instruction_at program at)
  where
    by : (o : Option Instr) → premises_by defs program at o rule.Or f ≡ opened_states defs program at at.state.formula.cases
    by None = refl
    by (Some (instr.Assign to term)) = refl
    by (Some (instr.New to kind args)) = refl
    by (Some (instr.Get to slot kind field)) = refl
    by (Some (instr.Set slot kind field from)) = refl
    by (Some (instr.Branch condition other)) = refl
    by (Some (instr.Jump target)) = refl
    by (Some (instr.Call to method args)) = refl
    by (Some (instr.Return from)) = refl

-- ---- what is answered

-- one state alone is low where it is
pub alone_given : (a : At) (found : Result At RuleError) (all : Result (List At) RuleError) → IsGiven (a.state.next ≤ 2 ^ 30) a found → IsAlone found all → IsGiven (AreLow (a ∷ [])) (a ∷ []) all
alone_given a (Ok x) (Ok xs) (low, is) e = (All-cons (λ (p : At). p.state.next ≤ 2 ^ 30) a [] low (All-nil (λ (p : At). p.state.next ≤ 2 ^ 30)), e ∙ ap (λ y. y ∷ []) is)
alone_given a (Ok x) (Err NotApplicable) (low, is) e = absurd cc
alone_given a (Ok x) (Err Memory) (low, is) e = tt
alone_given a (Err NotApplicable) (Ok xs) n e = absurd e
alone_given a (Err NotApplicable) (Err NotApplicable) n e = λ low. n (All-head (λ (p : At). p.state.next ≤ 2 ^ 30) a [] low)
alone_given a (Err NotApplicable) (Err Memory) n e = tt
alone_given a (Err Memory) (Ok xs) n e = absurd e
alone_given a (Err Memory) (Err NotApplicable) n e = absurd cc
alone_given a (Err Memory) (Err Memory) n e = tt

-- a state that is there and low
pub one_given : (a : At) (all : Result (List At) RuleError) → a.state.next ≤ 2 ^ 30 → IsAlone (Ok a) all → IsGiven (AreLow (a ∷ [])) (a ∷ []) all
one_given a all low e = alone_given a (Ok a) all (low, refl) e

module _ (defs : Defs) (program : Program) (at : At) (f : Formula) where
  pub or_next : (r : PRule) (found : Result (List At) RuleError) → r ≡ rule.Or → Asks defs program at r →
      IsGiven (AreLow (opened_states defs program at at.state.formula.cases)) (opened_states defs program at at.state.formula.cases) found → AreNext defs program at r f found
  or_next r found is asks given = subst (λ q. AreNext defs program at q f found) (sym is) (answer found (subst (Asks defs program at) is asks) given)
    where
      answer : (found : Result (List At) RuleError) → Asks defs program at rule.Or →
          IsGiven (AreLow (opened_states defs program at at.state.formula.cases)) (opened_states defs program at at.state.formula.cases) found → AreNext defs program at rule.Or f found
      answer (Ok all) asks (low, e) = (record { asks = asks; low = subst AreLow (sym (premises_or defs program at f)) low }, e ∙ sym (premises_or defs program at f))
      answer (Err NotApplicable) asks n = λ g. n (subst AreLow (premises_or defs program at f) g.low)
      answer (Err Memory) asks n = tt

  -- what asks applies by the next instruction, and its goal is low
  pub asks_applies : (r : PRule) (i : Instr) → ¬ (r ≡ rule.Or) → instruction_at program at ≡ Some i → Asks defs program at r → IsApplied program at r i
  asks_applies r i other is asks = applies_by program at r i is (subst (λ A. A) (form_is program at r other) asks.form)

  pub asks_low : (r : PRule) (i : Instr) → IsApplied program at r i → Asks defs program at r → GoalIsLow (goal_for defs program at (called r) i)
  asks_low r i a asks = subst GoalIsLow (goal_is defs program at r i a) asks.low

  pub instr_next : (r : PRule) (i : Instr) (found : Result (List At) RuleError) → IsApplied program at r i → Asks defs program at r →
      IsGiven (AreLow (premises_for defs program at (called r) i f)) (premises_for defs program at (called r) i f) found → AreNext defs program at r f found
  instr_next r i (Ok all) a asks (low, e) = (record { asks = asks; low = subst AreLow (sym (premises_are defs program at r i f a)) low }, e ∙ sym (premises_are defs program at r i f a))
  instr_next r i (Err NotApplicable) a asks n = λ g. n (subst AreLow (premises_are defs program at r i f a) g.low)
  instr_next r i (Err Memory) a asks n = tt

-- ---- disjuncts of fitting states can be opened

pub can_open : (defs : Defs) (next : ℕ) (d : Disjunct) → next ≤ 2 ^ 30 → CaseFits defs next d → CanBeOpened next d
can_open defs next d few fits = record { few = few; distinct = fits.distinct; numbers = fits.numbers; pure = fits.pure }

-- ---- by the instruction

pub list_answer : (defs : Defs) (program : Program) (at : At) (k : ℕ) (f : Formula) (i j : Instr) (ps qs : List At) (all : Result (List At) RuleError) →
    i ≡ j → premises_for defs program at k j f ≡ qs → ps ≡ qs → IsGiven (AreLow ps) ps all → IsGiven (AreLow (premises_for defs program at k i f)) (premises_for defs program at k i f) all
list_answer defs program at k f i j ps qs all is e same given =
    subst (λ (xs : List At). IsGiven (AreLow xs) xs all) (same ∙ sym (ap (λ x. premises_for defs program at k x f) is ∙ e)) given

pub premise_answer : (defs : Defs) (program : Program) (at : At) (k : ℕ) (f : Formula) (i j : Instr) (a b : At) (found : Result At RuleError) (all : Result (List At) RuleError) →
    i ≡ j → premises_for defs program at k j f ≡ b ∷ [] → a ≡ b → IsGiven (a.state.next ≤ 2 ^ 30) a found → IsAlone found all →
    IsGiven (AreLow (premises_for defs program at k i f)) (premises_for defs program at k i f) all
premise_answer defs program at k f i j a b found all is e same given one =
    list_answer defs program at k f i j (a ∷ []) (b ∷ []) all is e (λ n. same n ∷ []) (alone_given a found all given one)

-- ---- the disjuncts of a state

pub low_at : (at : At) (ds : List Disjunct) (k : ℕ) (d : Disjunct) → k < length ds → AreLow (all_opened at ds) → (opened_state at (get_or ds k d)).state.next ≤ 2 ^ 30
low_at at [] k d less low = absurd (omega arith)
low_at at (x ∷ xs) zero d less low = All-head (λ (p : At). p.state.next ≤ 2 ^ 30) (opened_state at x) (all_opened at xs) low
low_at at (x ∷ xs) (suc k) d less low = low_at at xs k d (omega arith) (All-tail (λ (p : At). p.state.next ≤ 2 ^ 30) (opened_state at x) (all_opened at xs) low)

pub err_answer : (at : At) (ds : List Disjunct) (k : ℕ) (d : Disjunct) (error : RuleError) → k < length ds → d ≡ get_or ds k d →
    IsGiven ((opened_state at d).state.next ≤ 2 ^ 30) (opened_state at d) (Err error) → IsGiven (AreLow (all_opened at ds)) (all_opened at ds) (Err error)
err_answer at ds k d NotApplicable less is n = λ low. n (subst (λ (x : Disjunct). (opened_state at x).state.next ≤ 2 ^ 30) (sym is) (low_at at ds k d less low))
err_answer at ds k d Memory less is n = tt

pub record IsOneMore (at : At) (ds : List Disjunct) (k : ℕ) (more : List At) : Type 0 where
  pub states : more ≡ all_opened at (take (k + 1) ds)
  pub low : AreLow (all_opened at (take (k + 1) ds))

pub one_opened : (at : At) (ds : List Disjunct) (k : ℕ) (d : Disjunct) (state : At) (before more : List At) → k < length ds → d ≡ get_or ds k d →
    IsGiven ((opened_state at d).state.next ≤ 2 ^ 30) (opened_state at d) (Ok state) → before ≡ all_opened at (take k ds) → AreLow (all_opened at (take k ds)) → more ≡ before ++ state ∷ [] → IsOneMore at ds k more
one_opened at ds k d state before more less is (small, e) invariant low grown =
    let longer : all_opened at (take (k + 1) ds) ≡ all_opened at (take k ds) ++ opened_state at (get_or ds k d) ∷ [] = map-take_more (opened_state at) ds k d less in
    let last : (opened_state at (get_or ds k d)).state.next ≤ 2 ^ 30 = subst (λ (x : Disjunct). (opened_state at x).state.next ≤ 2 ^ 30) is small in
    let tail : state ≡ opened_state at (get_or ds k d) = e ∙ ap (opened_state at) is in
    record {
      states = grown ∙ (λ i. invariant i ++ tail i ∷ []) ∙ sym longer;
      low = subst AreLow (sym longer) (All-push (λ (p : At). p.state.next ≤ 2 ^ 30) (all_opened at (take k ds)) (opened_state at (get_or ds k d)) low last);
    }
