-- Further premises of well-formed states are well formed.
use Rattle.std.proofs.Common.{ℕ, zero, suc, ◌≡◌, ◌==◌, ◌+◌, ◌-◌, ◌<◌, ◌≤◌, ◌^◌, max, inl, inr, Bool, false, List, [], ◌∷◌, ◌++◌, length, map, slice_set, slice_index_or, get_or, Option, Some, None, refl, sym, ◌∙◌, ap, subst, arith}
use Rattle.std.specs.List.{All, fold}
use Rattle.std.proofs.lemmas.List.{length-set}
use Rattle.std.proofs.lemmas.List.Elements.{All-nil, All-cons, All-head, All-tail, All-append, All-push, All-set, All-map, All-weaker}
use Rattle.hs_pure.specs.declared.var.Var.{Var}
use Rattle.hs_pure.specs.declared.pure.Pure.{Pure}
use Rattle.hs_pure.specs.declared.pure.Pure.TheVariants as pure_of
use Rattle.hs_pure.specs.Equated.{variable_sum}
use Rattle.hs_pure.specs.Rename.{renamed_lin, renamed}
use Rattle.hs_pure.proofs.Truths.{All-map_back}
use Rattle.hs_pure.proofs.Views.{fold-Not}
use Rattle.hs_heap.specs.declared.formula.Disjunct.{Disjunct}
use Rattle.hs_heap.specs.declared.formula.Formula.{Formula}
use Rattle.hs_heap.specs.declared.definitions.Defs.{Defs}
use Rattle.hs_heap.specs.WellFormed.{is_and_level}
use Rattle.hs_heap.specs.Sound.{AtomFits}
use Rattle.hs_heap.specs.Renamed.{renamed_formula}
use Rattle.hs_heap.proofs.Booleans.{bool_cases}
use Rattle.hs_heap.proofs.Lists.{listed_back}
use Rattle.hs_goal.specs.Shape.{CaseFits}
use Rattle.hs_goal.specs.Parts.{ConjunctFits}
use Rattle.hs_goal.specs.Classes.{IsSimple, the_case}
use Rattle.hs_rules.specs.Parts.{only, opened}
use Rattle.hs_rules.proofs.Proper.{proper-Not, well_formed_proper}
use Rattle.hs_rules.proofs.RenamedFits.{opened_fits}
use Rattle.hs_core.specs.declared.instr.Instr.{Instr}
use Rattle.hs_core.specs.declared.instr.Instr.TheVariants as instr
use Rattle.hs_core.specs.declared.state.PRule.{PRule}
use Rattle.hs_core.specs.declared.program.Pair.{Pair}
use Rattle.hs_core.specs.declared.program.Method.{Method}
use Rattle.hs_core.specs.declared.program.Program.{Program}
use Rattle.hs_core.specs.declared.state.At.{At}
use Rattle.hs_core.specs.Machine.{method_of, numbered, picked}
use Rattle.hs_core.specs.Sound.{IsUpTo, TakesFit, PairFits, IsSoundProgram, AreRising, field_count, param_vars}
use Rattle.hs_core.proofs.GivenVars.{in_from}
use Rattle.hs_heap.specs.Sound.{kinds}
use Rattle.hs_program_rules.specs.States.{Held, held_in, number_var, variable_in, IsHeld, IsOwn, StateFits, method_at, pair_at, pair_of, instruction_at}
use Rattle.hs_program_rules.specs.Parts.{number_or_none, held_top, next_of, with_held, goes, node_atom, beside, count_or_none, conjuncts, all_joined, call_renaming, after_call, result_var, last_vars, variables_in, all_held, result_held}
use Rattle.hs_program_rules.specs.Table.{ReadsHeld, AppliesTo, goal_by, premises_by, call_goal, new_var, state_vars, with_node, with_conjuncts, assigned, over_variables, opened_states, fields_of, after_call_of, AreLow}
use Rattle.hs_program_rules.proofs.Fitting.{held_set}
use Rattle.hs_program_rules.proofs.Matched.{Matched, assigns, makes, gets, sets, branches, jumps, calls, returns}
use Rattle.hs_program_rules.proofs.Pairs.{numbered_all, pair_fits}
use Rattle.hs_program_rules.proofs.Standing.{map_length, held_number, held_numbers, held_below, slot_there, instr_fits}
use Rattle.hs_program_rules.proofs.Values.{all_held-length, picked_there}
use Rattle.hs_program_fits.specs.Formed.{ResidueIsFormed}
use Rattle.hs_program_fits.specs.Laws.{PremisesFit}
use Rattle.hs_program_fits.proofs.Rules.{or_premises, by_rule}
use Rattle.hs_program_fits.proofs.Shapes.{CaseIsShaped, IsShaped, case_shaped, side_shaped, shaped_fits, formed_shaped, only_shaped, plain_shaped, the_case_shaped}
use Rattle.hs_program_fits.proofs.Conjuncts.{conjuncts_fit}
use Rattle.hs_program_fits.proofs.OverSlots.{variable_ordered, equation_fits, over_ordered, over_proper}
use Rattle.hs_program_fits.proofs.Nodes.{node_fits, fields_length, fields_numbers, fields_fit, beside_shaped}
use Rattle.hs_program_fits.proofs.Calls.{all_joined_shaped, post_shaped, post_binds_low, IsNewNumber, result_new, last_new}
use Rattle.hs_program_fits.proofs.Asking.{arguments_are}

-- ---- numbers of what slots hold

abbrev higher : ℕ → Option Var → ℕ
higher top h = max top (number_or_none h)

start_under : (held : Held) (n : ℕ) → n ≤ fold higher n held
start_under [] n = omega arith
start_under (h ∷ held) n = let k = start_under held (higher n h) in omega arith

item_under : (held : Held) (n i : ℕ) (v : Var) → slice_index_or held i None ≡ Some v → v.number ≤ fold higher n held
item_under [] n i v e = absurd (cc)
item_under (h ∷ held) n zero v e =
    let is : h ≡ Some v = e in
    let k = start_under held (higher n h) in
    let j : number_or_none h ≡ v.number = ap number_or_none is in omega arith
item_under (h ∷ held) n (suc i) v e = item_under held (higher n h) i v e

pub held_under : (held : Held) (k : ℕ) (v : Var) → held_in held k ≡ Some v → v.number ≤ held_top held
held_under held zero v e = absurd (cc)
held_under held (suc i) v e = item_under held 0 i v e

-- ---- what slots hold after more get variables

module _ (P : Var → Type 0) where
  abbrev pub AllHeld : Held → Type 0
  AllHeld held = (k : ℕ) (v : Var) → held_in held k ≡ Some v → P v

  some_is : (v w : Var) → Some v ≡ Some w → v ≡ w
  some_is v w e = cc

  with_held-all : (held : Held) (to : ℕ) (u : Var) → IsUpTo (length held) to → P u → AllHeld held → AllHeld (with_held held to u)
  with_held-all held to u there p all k v e = elim (bool_cases (k == to)) [
    | inl same ↦ let f : Some u ≡ Some v = sym (held_set held to k u there ∙ rw same refl) ∙ e in subst P (some_is u v f) p
    | inr other ↦ let f : held_in held k ≡ Some v = sym (held_set held to k u there ∙ rw other refl) ∙ e in all k v f
  ]

  all_held-all : (held : Held) (ks : List ℕ) (us : List Var) → All (IsUpTo (length held)) ks → All P us → AllHeld held → AllHeld (all_held held ks us)
  all_held-all held [] us there ps all = all
  all_held-all held (k ∷ ks) [] there ps all = all
  all_held-all held (k ∷ ks) (u ∷ us) there ps all =
      let size = all_held-length held ks us in
      let (low, high) = All-head (IsUpTo (length held)) k ks there in
      with_held-all (all_held held ks us) k u (low, omega arith) (All-head P u us ps) (all_held-all held ks us (All-tail (IsUpTo (length held)) k ks there) (All-tail P u us ps) all)

  result_held-all : (result : Bool) (n : ℕ) (held : Held) (to : Option ℕ) (u : Var) → n ≡ length held → TakesFit n result to → P u → AllHeld held → AllHeld (result_held to u held)
  result_held-all result n held None u size fits p all = all
  result_held-all result n held (Some k) u size fits p all = let (low, high) = fits.0 in with_held-all held k u (low, omega arith) p all

result_held-length : (to : Option ℕ) (u : Var) (held : Held) → length (result_held to u held) ≡ length held
result_held-length None u held = refl
result_held-length (Some k) u held = length-set held (k - 1) (Some u)

-- ---- premises

module _ (defs : Defs) (program : Program) (sound : IsSoundProgram defs program) (at : At) (wf : StateFits defs program at) where
  abbrev m : Method
  m = method_at program at

  abbrev p : Pair
  p = pair_at program at

  abbrev n : ℕ
  n = at.state.next

  abbrev Fits : At → Type 0
  Fits next = StateFits defs program next

  abbrev AreFit : List At → Type 0
  AreFit ps = All Fits ps

  abbrev IsLow : At → Type 0
  IsLow next = next.state.next ≤ 2 ^ 30

  -- at another point, with a shaped formula
  goes_fits : (point : ℕ) (held : Held) (f : Formula) → point < length m.code → length held ≡ length at.state.slots → AllHeld (IsOwn m p) held → IsShaped defs f → IsLow (goes at point held f) → Fits (goes at point held f)
  goes_fits point held f there size own shaped low =
      let above = wf.not_below in
      let slots = wf.slots in
      record {
        method = wf.method;
        pair = wf.pair;
        point = there;
        slots = size ∙ slots;
        held = λ k v e. let under = held_under held k v e in (own k v e, omega arith);
        not_below = omega arith;
        few = low;
        formula = shaped_fits defs (next_of n f held) f shaped (omega arith);
      }

  one : (next : At) → AreLow (next ∷ []) → (IsLow next → Fits next) → AreFit (next ∷ [])
  one next low fits = All-cons Fits next [] (fits (All-head IsLow next [] low)) (All-nil Fits)

  own_held : AllHeld (IsOwn m p) at.state.slots
  own_held k v e = (wf.held k v e).0

  -- a new number variable is the state's own
  new_own : (v : Var) → v.bag ≡ false → n ≤ v.number → IsOwn m p v
  new_own v number high = let above = wf.not_below in inr (number, omega arith)

  set_held : (to : ℕ) (u : Var) → IsUpTo m.slots to → u.bag ≡ false → n ≤ u.number → AllHeld (IsOwn m p) (with_held at.state.slots to u)
  set_held to u there number high = with_held-all (IsOwn m p) at.state.slots to u (slot_there defs program at wf to there) (new_own u number high) own_held

  set_length : (to : ℕ) (u : Var) → length (with_held at.state.slots to u) ≡ length at.state.slots
  set_length to u = length-set at.state.slots (to - 1) (Some u)

  -- ---- rules that ask no goal

  own_case : IsSimple at.state.formula → CaseIsShaped defs (the_case at.state.formula)
  own_case simple = the_case_shaped defs at.state.formula simple.one (side_shaped defs n at.state.formula wf.formula)

  conjuncts_shaped : IsSimple at.state.formula → (ps : List Pure) → All ConjunctFits ps → IsShaped defs (with_conjuncts defs program at ps)
  conjuncts_shaped simple ps fits =
      let d = the_case at.state.formula in
      let s = own_case simple in
      plain_shaped defs d.atoms (d.pure ++ ps) s.atoms (All-append ConjunctFits d.pure ps s.pure fits)

  opened_fit : (ds : List Disjunct) → All (CaseFits defs n) ds → AreLow (opened_states defs program at ds) → AreFit (opened_states defs program at ds)
  opened_fit ds fits low =
      let next = λ (d : Disjunct). goes at at.point at.state.slots (only (opened d n)) in
      let lows = All-map_back IsLow next ds low in
      All-map Fits next ds (λ i z less.
      let d = get_or ds i z in
      goes_fits at.point at.state.slots (only (opened d n)) wf.point refl own_held
      (only_shaped defs (opened d n) (case_shaped defs (n + length d.bound) (opened d n) (opened_fits defs n d (fits i z less)))) (lows i z less))

  -- ---- calls

  module _ (to : Option ℕ) (method : ℕ) (args : List ℕ) (number : ℕ) (residue : Formula) (pair : PairFits defs (method_of program method) (pair_of (method_of program method) number))
      (rising : AreRising (method_of program method).params 0 (method_of program method).refs) (there : All (IsUpTo m.slots) args) (size : length args ≡ (method_of program method).params)
      (takes : TakesFit m.slots (method_of program method).result to) (reads : All (IsHeld at.state.slots) args) (on : suc at.point < length m.code) where
    abbrev callee : Method
    callee = method_of program method

    abbrev q : Pair
    q = pair_of callee number

    abbrev vars : List Var
    vars = variables_in at.state.slots args

    arity : kinds (param_vars callee) ≡ kinds vars
    arity = arguments_are defs program at wf callee args reads size

    below : All (λ (v : Var). v.number < n) vars
    below = held_below defs program at wf args reads

    abbrev r : Var → Var
    r = call_renaming callee q vars n

    abbrev passed : Held
    passed = all_held at.state.slots (picked args callee.refs) (map r (last_vars callee))

    passed_own : AllHeld (IsOwn m p) passed
    passed_own =
        let slots = All-weaker (IsUpTo m.slots) (IsUpTo (length at.state.slots)) (λ k. slot_there defs program at wf k) args there in
        all_held-all (IsOwn m p) at.state.slots (picked args callee.refs) (map r (last_vars callee))
        (picked_there (length at.state.slots) callee.params args 0 callee.refs size slots rising)
        (All-weaker (IsNewNumber defs callee q pair vars n arity below) (IsOwn m p) (λ v k. new_own v k.number k.high) (map r (last_vars callee)) (last_new defs callee q pair vars n arity below)) own_held

    call_fits : ResidueIsFormed defs (Some (call_goal at callee q args)) residue → IsLow (after_call_of defs program at callee q to args residue) → Fits (after_call_of defs program at callee q to args residue)
    call_fits formed low =
        let goal = call_goal at callee q args in
        let u = r (result_var callee) in
        let new = result_new defs callee q pair vars n arity below in
        let same = all_held-length at.state.slots (picked args callee.refs) (map r (last_vars callee)) in
        let slots = wf.slots in
        let post = renamed_formula r q.post in
        let binds = post_binds_low defs callee q pair vars n arity below in
        let above : after_call callee q n ≤ goal.next = omega arith in
        goes_fits (suc at.point) (result_held to u passed) (all_joined residue post) on (result_held-length to u passed ∙ same)
        (result_held-all (IsOwn m p) callee.result m.slots passed to u (sym (same ∙ slots)) takes (new_own u new.number new.high) passed_own)
        (all_joined_shaped defs goal.next residue post formed.1.bound (formed_shaped defs residue formed.0)
        (λ i d less v b. let k = binds i d less v b in omega arith) (post_shaped defs callee q pair vars n arity below)) low

  -- ---- each rule

  by_instruction : {i : Instr} {r : PRule} → Matched program i r → AppliesTo program at r → instruction_at program at ≡ Some i → ReadsHeld m at.state.slots i →
      (residue : Formula) → ResidueIsFormed defs (goal_by defs program at (Some i) r) residue → AreLow (premises_by defs program at (Some i) r residue) → AreFit (premises_by defs program at (Some i) r residue)
  by_instruction (assigns to term) applies is reads residue formed low =
      let fits = instr_fits defs program at wf sound (instr.Assign to term) is in
      let u = new_var at in
      let equation = assigned defs program at term in
      let ordered = over_ordered at.state.slots (held_number defs program at wf) term fits.1.ordered in
      let fit = equation_fits (variable_sum u) (renamed_lin (over_variables defs program at) term) (variable_ordered u refl) ordered in
      one _ low (goes_fits (suc at.point) (with_held at.state.slots to u) (with_conjuncts defs program at (equation ∷ [])) fits.2 (set_length to u) (set_held to u fits.0 refl (omega arith))
      (conjuncts_shaped applies.simple (equation ∷ []) (All-cons ConjunctFits equation [] fit (All-nil ConjunctFits))))
  by_instruction (makes to kind args) applies is reads residue formed low =
      let fits = instr_fits defs program at wf sound (instr.New to kind args) is in
      let u = new_var at in
      let vars = state_vars at args in
      let d = the_case at.state.formula in
      let s = own_case applies.simple in
      let atom = node_atom u kind vars in
      let fit = node_fits defs u kind (length args) vars refl fits.2 (held_numbers defs program at wf args reads) (map_length (variable_in at.state.slots) args) in
      one _ low (goes_fits (suc at.point) (with_held at.state.slots to u) (with_node defs program at kind args) fits.3 (set_length to u) (set_held to u fits.0 refl (omega arith))
      (plain_shaped defs (d.atoms ++ atom ∷ []) d.pure (All-push (AtomFits defs) d.atoms atom s.atoms fit) s.pure))
  by_instruction (gets to slot kind field) applies is reads residue formed low =
      let fits = instr_fits defs program at wf sound (instr.Get to slot kind field) is in
      let root = variable_in at.state.slots slot in
      let number = held_number defs program at wf slot root (All-head (IsHeld at.state.slots) slot [] reads) in
      let fields = fields_of defs program at kind in
      let count = count_or_none (field_count defs kind) in
      let u = numbered fields field (number_var 0) in
      let Own : Var → Type 0 = λ v. (v.bag ≡ false) × (n ≤ v.number) in
      let news : All Own fields = listed_back Own fields (λ v i. let k = in_from v n count i in (k.0, k.1)) in
      let size : length fields ≡ fits.2.0 = fields_length defs kind fits.2.0 n fits.2.1 in
      let (least, most) = fits.2.2 in
      let new = numbered_all Own fields field (number_var 0) (least, omega arith) news in
      let atom = node_atom root kind fields in
      one _ low (goes_fits (suc at.point) (with_held at.state.slots to u) (beside atom residue) fits.3 (set_length to u) (set_held to u fits.0 new.0 new.1)
      (beside_shaped defs atom residue (fields_fit defs root kind field n number fits.2) (formed_shaped defs residue formed.0)))
  by_instruction (sets slot kind field from) applies is reads residue formed low =
      let fits = instr_fits defs program at wf sound (instr.Set slot kind field from) is in
      let root = variable_in at.state.slots slot in
      let source = variable_in at.state.slots from in
      let number = held_number defs program at wf slot root (All-head (IsHeld at.state.slots) slot (from ∷ []) reads) in
      let source_number = held_number defs program at wf from source (All-head (IsHeld at.state.slots) from [] (All-tail (IsHeld at.state.slots) slot (from ∷ []) reads)) in
      let fields = fields_of defs program at kind in
      let changed = slice_set fields (field - 1) source in
      let numbers = All-set (λ (v : Var). v.bag ≡ false) fields (field - 1) source source_number (fields_numbers defs kind n) in
      let size : length changed ≡ fits.2.0 = length-set fields (field - 1) source ∙ fields_length defs kind fits.2.0 n fits.2.1 in
      let atom = node_atom root kind changed in
      one _ low (goes_fits (suc at.point) at.state.slots (beside atom residue) fits.3 refl own_held
      (beside_shaped defs atom residue (node_fits defs root kind fits.2.0 changed number fits.2.1 numbers size) (formed_shaped defs residue formed.0)))
  by_instruction (branches condition other) applies is reads residue formed low =
      let fits = instr_fits defs program at wf sound (instr.Branch condition other) is in
      let c = renamed (over_variables defs program at) condition in
      let proper = over_proper at.state.slots (held_number defs program at wf) condition (λ v e. (fits.0.slots v e).0) (well_formed_proper condition fits.0.formed) in
      let on_true = goes at (suc at.point) at.state.slots (with_conjuncts defs program at (conjuncts c)) in
      let on_false = goes at other at.state.slots (with_conjuncts defs program at (pure_of.Not c ∷ [])) in
      let not_fits : ConjunctFits (pure_of.Not c) = (fold-Not is_and_level c, proper-Not c proper) in
      All-cons Fits on_true (on_false ∷ [])
      (goes_fits (suc at.point) at.state.slots (with_conjuncts defs program at (conjuncts c)) fits.1 refl own_held
      (conjuncts_shaped applies.simple (conjuncts c) (conjuncts_fit c proper)) (All-head IsLow on_true (on_false ∷ []) low))
      (one on_false (All-tail IsLow on_true (on_false ∷ []) low) (goes_fits other at.state.slots (with_conjuncts defs program at (pure_of.Not c ∷ [])) fits.2.1 refl own_held
      (conjuncts_shaped applies.simple (pure_of.Not c ∷ []) (All-cons ConjunctFits (pure_of.Not c) [] not_fits (All-nil ConjunctFits)))))
  by_instruction (jumps target) applies is reads residue formed low =
      let fits = instr_fits defs program at wf sound (instr.Jump target) is in
      one _ low (λ few. record {
        method = wf.method;
        pair = wf.pair;
        point = fits.1;
        slots = wf.slots;
        held = wf.held;
        not_below = wf.not_below;
        few = few;
        formula = wf.formula;
      })
  by_instruction (calls to method args i there) applies is reads residue formed low =
      let fits = instr_fits defs program at wf sound (instr.Call to method args) is in
      one _ low (call_fits to method args i residue (pair_fits defs program sound method i fits.0 there) (sound.methods method fits.0).refs fits.1 fits.2 fits.3 reads fits.5 formed)
  by_instruction (returns from) applies is reads residue formed low = All-nil Fits

abbrev FitBy : Defs → Program → At → Formula → PRule → Option Instr → Type 0
FitBy defs program at residue r o = ResidueIsFormed defs (goal_by defs program at o r) residue → AreLow (premises_by defs program at o r residue) → All (StateFits defs program) (premises_by defs program at o r residue)

pub premises_are_fit : PremisesFit
premises_are_fit defs program sound at r wf form residue =
    by_rule program at (FitBy defs program at residue)
    (λ o formed low.
    let is = or_premises defs program at o residue in
    subst (All (StateFits defs program)) (sym is) (opened_fit defs program sound at wf at.state.formula.cases wf.formula (subst AreLow is low)))
    (λ i k match applies is held formed low. by_instruction defs program sound at wf match applies is held residue formed low) r form
