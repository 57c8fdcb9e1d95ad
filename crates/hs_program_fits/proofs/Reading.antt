-- In set programs the slots that the next instruction of a prepared state reads hold variables, and so it has its rules.
use Rattle.std.proofs.Common.{ℕ, zero, suc, ◌≡◌, ◌↔◌, ℤ, ◌<◌, inl, IsTrue, List, [], ◌∷◌, length, map, Some, None, slice_get, slice_index_or, refl, sym, ◌∙◌, subst, arith}
use Rattle.std.specs.List.{All, list_any, flat_map}
use Rattle.std.proofs.lemmas.List.Elements.{All-nil, All-cons, All-append, All-map}
use Rattle.hs_pure.specs.declared.var.Var.{Var}
use Rattle.hs_pure.specs.declared.lin.Lin.{Lin}
use Rattle.hs_pure.specs.declared.pure.Pure.{Pure}
use Rattle.hs_pure.specs.Stack.{same}
use Rattle.hs_pure.specs.Occurs.{in_lin}
use Rattle.hs_pure.specs.Rename.{sums}
use Rattle.hs_pure.proofs.Vars.{or_left, or_right}
use Rattle.hs_pure.proofs.Apart.{sums_occur}
use Rattle.hs_heap.specs.declared.definitions.Defs.{Defs}
use Rattle.hs_heap.proofs.Stacks.{same_itself}
use Rattle.hs_goal.specs.Classes.{IsSimple}
use Rattle.hs_core.specs.declared.instr.Instr.{Instr}
use Rattle.hs_core.specs.declared.instr.Instr.TheVariants as instr
use Rattle.hs_core.specs.declared.state.PRule.{PRule}
use Rattle.hs_core.specs.declared.state.PRule.TheVariants as rule
use Rattle.hs_core.specs.declared.program.Method.{Method}
use Rattle.hs_core.specs.declared.program.Program.{Program}
use Rattle.hs_core.specs.declared.state.At.{At}
use Rattle.hs_core.specs.Machine.{no_method}
use Rattle.hs_core.specs.Set.{reads, slots_in, MethodIsSet, IsSet}
use Rattle.hs_core.specs.Sound.{IsUpTo, IsSlot, ConditionFits, InstrFits, AreRising, IsSoundProgram}
use Rattle.hs_program_rules.specs.States.{IsHeld, StateFits, method_at, instruction_at}
use Rattle.hs_program_rules.specs.Table.{ReadsHeld, IsRuleOf, AppliesTo, HasForm}
use Rattle.hs_program_rules.proofs.Pairs.{numbered_all}
use Rattle.hs_program_rules.proofs.Standing.{instr_fits}
use Rattle.hs_program_fits.specs.Prepared.{IsPrepared}
use Rattle.hs_program_fits.specs.Laws.{PreparedStatesAreRead, SimpleStatesHaveRules}
use Rattle.hs_program_fits.proofs.Rules.{or_is_none}

-- ---- the slots that an instruction reads are there

terms_there : (n : ℕ) (ts : List (Var × ℤ)) → ((v : Var) → IsTrue (list_any (λ t. same t.0 v) ts) → IsSlot n v) → All (IsUpTo n) (map (λ t. t.0.number) ts)
terms_there n [] slots = All-nil (IsUpTo n)
terms_there n (t ∷ ts) slots =
    All-cons (IsUpTo n) t.0.number (map (λ t. t.0.number) ts) (slots t.0 (or_left (same t.0 t.0) (list_any (λ u. same u.0 t.0) ts) (same_itself t.0))).1
    (terms_there n ts (λ v e. slots v (or_right (same t.0 v) (list_any (λ u. same u.0 v) ts) e)))

sums_there : (n : ℕ) (ls : List Lin) → All (λ a. (v : Var) → IsTrue (in_lin v a) → IsSlot n v) ls → All (IsUpTo n) (flat_map slots_in ls)
sums_there n [] slots = All-nil (IsUpTo n)
sums_there n (a ∷ ls) slots = All-append (IsUpTo n) (slots_in a) (flat_map slots_in ls) (terms_there n a.terms (slots 0 a (omega arith))) (sums_there n ls (λ i d less. slots (suc i) d (omega arith)))

condition_there : (n : ℕ) (c : Pure) → ConditionFits n c → All (IsUpTo n) (flat_map slots_in (sums c))
condition_there n c fits = sums_there n (sums c) (λ i a less v e. fits.slots v (sums_occur v c i a less e))

one : (n k : ℕ) → IsUpTo n k → All (IsUpTo n) (k ∷ [])
one n k there = All-cons (IsUpTo n) k [] there (All-nil (IsUpTo n))

reads_there : (defs : Defs) (program : Program) (m : Method) (point : ℕ) (i : Instr) → InstrFits defs program m point i → All (IsUpTo m.slots) (reads i)
reads_there defs program m point (instr.Assign to term) fits = All-map (IsUpTo m.slots) (λ (t : Var × ℤ). t.0.number) term.terms (λ i d less. (fits.1.slots i d less).1)
reads_there defs program m point (instr.New to kind args) fits = fits.1
reads_there defs program m point (instr.Get to slot kind field) fits = one m.slots slot fits.1
reads_there defs program m point (instr.Set slot kind field from) fits = All-cons (IsUpTo m.slots) slot (from ∷ []) fits.0 (one m.slots from fits.1)
reads_there defs program m point (instr.Branch condition other) fits = condition_there m.slots condition fits.0
reads_there defs program m point (instr.Jump target) fits = All-nil (IsUpTo m.slots)
reads_there defs program m point (instr.Call to method args) fits = fits.1
reads_there defs program m point (instr.Return None) fits = All-nil (IsUpTo m.slots)
reads_there defs program m point (instr.Return (Some k)) fits = one m.slots k fits.0

-- reference parameters are parameters
refs_there : (n low : ℕ) (ks : List ℕ) → AreRising n low ks → All (IsUpTo n) ks
refs_there n low [] rising = All-nil (IsUpTo n)
refs_there n low (k ∷ ks) (above, up, rising) = All-cons (IsUpTo n) k ks (omega arith, up) (refs_there n k ks rising)

module _ (defs : Defs) (program : Program) (sound : IsSoundProgram defs program) (set : IsSet program) (at : At) (wf : StateFits defs program at) (prepared : IsPrepared program at)
    (i : Instr) (is : instruction_at program at ≡ Some i) where
  abbrev m : Method
  m = method_at program at

  own_held : All (IsHeld at.state.slots) (reads i)
  own_held =
      let there = reads_there defs program m at.point i (instr_fits defs program at wf sound i is) in
      let given = numbered_all MethodIsSet program.methods at.method no_method wf.method set.methods at.point prepared.written i prepared.path is in
      λ j d less. prepared.held (slice_index_or (reads i) j d) (there j d less) (given j d less)

  refs_held : All (IsHeld at.state.slots) m.refs
  refs_held =
      let fits = sound.methods at.method wf.method in
      let there = refs_there m.params 0 m.refs fits.refs in
      λ j d less.
      let up = there j d less in
      let low = up.0 in
      let high = up.1 in
      let params = fits.params in
      prepared.held (slice_index_or m.refs j d) (low, omega arith) (inl high)

  all_held : (k : Instr) → All (IsHeld at.state.slots) (reads k) → ReadsHeld m at.state.slots k
  all_held (instr.Assign to term) own = own
  all_held (instr.New to kind args) own = own
  all_held (instr.Get to slot kind field) own = own
  all_held (instr.Set slot kind field from) own = own
  all_held (instr.Branch condition other) own = own
  all_held (instr.Jump target) own = own
  all_held (instr.Call to method args) own = own
  all_held (instr.Return from) own = All-append (IsHeld at.state.slots) (reads (instr.Return from)) m.refs own refs_held

  pub reads_held : ReadsHeld m at.state.slots i
  reads_held = all_held i own_held

pub states_are_read : PreparedStatesAreRead
states_are_read defs program sound set at wf prepared i is = reads_held defs program sound set at wf prepared i is

-- ---- the rules of a simple state

item_there : {A : Type 0} (xs : List A) (i : ℕ) → i < length xs → (x : A) × (slice_get xs i ≡ Some x)
item_there [] i less = absurd (omega arith)
item_there (x ∷ xs) zero less = (x, refl)
item_there (x ∷ xs) (suc i) less = item_there xs i (omega arith)

same_instr : (i j : Instr) → Some i ≡ Some j → i ≡ j
same_instr i j e = cc

module _ (program : Program) (at : At) (simple : IsSimple at.state.formula) (i : Instr) (is : instruction_at program at ≡ Some i) (held : ReadsHeld (method_at program at) at.state.slots i) where
  applies : (r : PRule) → IsRuleOf program i r → AppliesTo program at r
  applies r e = record { simple = simple; instr = i; is = is; rule_of = e; held = held }

  rule_is : (r : PRule) → AppliesTo program at r → IsRuleOf program i r
  rule_is r a = subst (λ k. IsRuleOf program k r) (same_instr a.instr i (sym a.is ∙ is)) a.rule_of

  pub form_is : (r : PRule) → HasForm program at r ↔ IsRuleOf program i r
  form_is rule.Or = (λ not_simple. absurd (not_simple simple), λ e. absurd (or_is_none program i e))
  form_is rule.Assign = (rule_is rule.Assign, applies rule.Assign)
  form_is rule.New = (rule_is rule.New, applies rule.New)
  form_is rule.Get = (rule_is rule.Get, applies rule.Get)
  form_is rule.Set = (rule_is rule.Set, applies rule.Set)
  form_is rule.Branch = (rule_is rule.Branch, applies rule.Branch)
  form_is rule.Jump = (rule_is rule.Jump, applies rule.Jump)
  form_is (rule.Call n) = (rule_is (rule.Call n), applies (rule.Call n))
  form_is rule.Return = (rule_is rule.Return, applies rule.Return)

pub states_have_rules : SimpleStatesHaveRules
states_have_rules defs program sound set at wf prepared simple =
    let (i, is) = item_there (method_at program at).code at.point wf.point in
    record { instr = i; is = is; rules = form_is program at simple i is (reads_held defs program sound set at wf prepared i is) }
