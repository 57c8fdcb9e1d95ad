-- The goals that rules ask are well formed.
use Rattle.std.proofs.Common.{ℕ, ◌≡◌, ◌+◌, ◌<◌, ◌≤◌, ◌^◌, IsTrue, List, [], ◌∷◌, length, map, Option, Some, None, refl, sym, ◌∙◌, subst, arith}
use Rattle.std.specs.List.{All}
use Rattle.std.proofs.lemmas.Bool.{false_from_ne_true}
use Rattle.std.proofs.lemmas.List.Elements.{All-nil, All-cons, All-head}
use Rattle.hs_pure.specs.declared.var.Var.{Var}
use Rattle.hs_heap.specs.declared.formula.Formula.{Formula}
use Rattle.hs_heap.specs.declared.definitions.Defs.{Defs}
use Rattle.hs_heap.specs.Meaning.{is_in}
use Rattle.hs_heap.specs.Variables.{is_free_in_formula}
use Rattle.hs_heap.specs.Sound.{AtomFits, AreDistinct, kinds}
use Rattle.hs_heap.specs.Renamed.{renamed_formula}
use Rattle.hs_goal.specs.declared.goal.Goal.{Goal}
use Rattle.hs_goal.specs.Shape.{GoalFits}
use Rattle.hs_goal.specs.Parts.{ConjunctFits}
use Rattle.hs_rules.specs.Parts.{plain}
use Rattle.hs_rules.proofs.Fits.{cases_below}
use Rattle.hs_core.specs.declared.instr.Instr.{Instr}
use Rattle.hs_core.specs.declared.instr.Instr.TheVariants as instr
use Rattle.hs_core.specs.declared.state.PRule.{PRule}
use Rattle.hs_core.specs.declared.program.Pair.{Pair}
use Rattle.hs_core.specs.declared.program.Method.{Method}
use Rattle.hs_core.specs.declared.program.Program.{Program}
use Rattle.hs_core.specs.declared.state.At.{At}
use Rattle.hs_core.specs.Machine.{method_of}
use Rattle.hs_core.specs.Sound.{HasField, IsSoundProgram, PairFits, param_vars, field_count}
use Rattle.hs_core.proofs.GivenVars.{in_from, vars_distinct}
use Rattle.hs_program_rules.specs.States.{IsHeld, StateFits, method_at, pair_at, pair_of, instruction_at, variable_in}
use Rattle.hs_program_rules.specs.Parts.{asked, node_atom, new_fields, count_or_none, variables_in, call_renaming, after_call, return_renaming}
use Rattle.hs_program_rules.specs.Table.{ReadsHeld, AppliesTo, node_goal, call_goal, return_goal, goal_by}
use Rattle.hs_program_rules.proofs.Matched.{Matched, assigns, makes, gets, sets, branches, jumps, calls, returns}
use Rattle.hs_program_rules.proofs.Pairs.{pair_fits}
use Rattle.hs_program_rules.proofs.Standing.{map_length, from_length, from_numbers, number_kinds, held_number, held_numbers, held_below, instr_fits}
use Rattle.hs_program_fits.specs.Laws.{AskedGoalsFit}
use Rattle.hs_program_fits.proofs.Rules.{or_goal, by_rule}
use Rattle.hs_program_fits.proofs.Shapes.{IsShaped, side_shaped, shaped_fits, plain_shaped}
use Rattle.hs_program_fits.proofs.Renamed.{still_there}
use Rattle.hs_program_fits.proofs.Nodes.{fields_fit}
use Rattle.hs_program_fits.proofs.Calls.{pre_shaped, logic_distinct, logic_new}
use Rattle.hs_program_fits.proofs.Returns.{own_post_shaped}

no_goal_is_none : (g : Goal) → None ≡ Some g → ⊥
no_goal_is_none g e = cc

module _ (defs : Defs) (program : Program) (at : At) (wf : StateFits defs program at) where
  -- open variables from the state's next on and below low
  pub record AreOpenable (low : ℕ) (opens : List Var) : Type 0 where
    pub distinct : AreDistinct opens
    pub high : (v : Var) → IsTrue (is_in v opens) → at.state.next ≤ v.number
    pub below : (v : Var) → IsTrue (is_in v opens) → v.number < low

  -- what the arguments of a call are
  pub arguments_are : (m : Method) (args : List ℕ) → All (IsHeld at.state.slots) args → length args ≡ m.params → kinds (param_vars m) ≡ kinds (variables_in at.state.slots args)
  arguments_are m args held size =
      number_kinds (param_vars m) (variables_in at.state.slots args) (from_numbers 1 m.params) (held_numbers defs program at wf args held)
      (from_length 1 m.params ∙ sym (map_length (variable_in at.state.slots) args ∙ size))

  asked_fits : (low : ℕ) (opens : List Var) (right : Formula) → IsShaped defs right → ¬ (right.cases ≡ []) → AreOpenable low opens → (asked at low opens right).next ≤ 2 ^ 30 →
      GoalFits defs (asked at low opens right)
  asked_fits low opens right shaped some opens_fit few =
      let next = (asked at low opens right).next in
      let above : low ≤ next = omega arith in
      record {
        used = All-nil (AtomFits defs);
        used_numbers = λ v e. absurd cc;
        left = shaped_fits defs next at.state.formula (side_shaped defs at.state.next at.state.formula wf.formula) (omega arith);
        right = shaped_fits defs next right shaped (omega arith);
        opens_numbers = λ v i. let k = opens_fit.below v i in omega arith;
        few = few;
        distinct = opens_fit.distinct;
        apart_used = λ v i. refl;
        apart_left = λ v i. false_from_ne_true (is_free_in_formula v at.state.formula) (λ e.
            let under = cases_below defs at.state.next at.state.formula.cases wf.formula v e in
            let over = opens_fit.high v i in absurd (omega arith));
        some = some;
      }

  node_goal_fits : (slot kind field : ℕ) → IsHeld at.state.slots slot → HasField defs kind field → (node_goal defs at slot kind).next ≤ 2 ^ 30 → GoalFits defs (node_goal defs at slot kind)
  node_goal_fits slot kind field held has few =
      let n = at.state.next in
      let root = variable_in at.state.slots slot in
      let count = count_or_none (field_count defs kind) in
      let fields = new_fields defs kind n in
      let atom = node_atom root kind fields in
      let size = from_length n count in
      let atom_fits = fields_fit defs root kind field n (held_number defs program at wf slot root held) has in
      asked_fits (n + length fields) fields (plain (atom ∷ []) [])
      (plain_shaped defs (atom ∷ []) [] (All-cons (AtomFits defs) atom [] atom_fits (All-nil (AtomFits defs))) (All-nil ConjunctFits))
      (λ e. cc)
      (record {
        distinct = vars_distinct n count;
        high = λ v i. (in_from v n count i).1;
        below = λ v i. let k = (in_from v n count i).2 in omega arith;
      }) few

  call_goal_fits : (m : Method) (p : Pair) (args : List ℕ) → PairFits defs m p → All (IsHeld at.state.slots) args → length args ≡ m.params → (call_goal at m p args).next ≤ 2 ^ 30 → GoalFits defs (call_goal at m p args)
  call_goal_fits m p args fits held size few =
      let n = at.state.next in
      let vars = variables_in at.state.slots args in
      let arity = arguments_are m args held size in
      let below = held_below defs program at wf args held in
      let r = call_renaming m p vars n in
      asked_fits (after_call m p n) (map r p.logic) (renamed_formula r p.pre) (pre_shaped defs m p fits vars n arity below) (still_there r p.pre fits.pre_there)
      (record {
        distinct = logic_distinct defs m p fits vars n arity below;
        high = λ v i. (logic_new defs m p fits vars n arity below v i).high;
        below = λ v i. (logic_new defs m p fits vars n arity below v i).low;
      }) few

  return_goal_fits : (from : Option ℕ) → PairFits defs (method_at program at) (pair_at program at) → ReadsHeld (method_at program at) at.state.slots (instr.Return from) → (return_goal program at from).next ≤ 2 ^ 30 →
      GoalFits defs (return_goal program at from)
  return_goal_fits from fits reads few =
      let r = return_renaming (method_at program at) from at.state.slots in
      let post = (pair_at program at).post in
      asked_fits at.state.next [] (renamed_formula r post) (own_post_shaped defs program at wf fits from reads) (still_there r post fits.post_there)
      (record { distinct = tt; high = λ v i. absurd cc; below = λ v i. absurd cc }) few

  -- the goal, if there is one, is well formed
  abbrev GoalFitsIfLow : Option Goal → Type 0
  GoalFitsIfLow o = (g : Goal) → o ≡ Some g → g.next ≤ 2 ^ 30 → GoalFits defs g

  none_fits : GoalFitsIfLow None
  none_fits g e few = absurd (no_goal_is_none g e)

  some_fits : (g : Goal) → (g.next ≤ 2 ^ 30 → GoalFits defs g) → GoalFitsIfLow (Some g)
  some_fits g fits h e few = let is : g ≡ h = cc in subst (λ (k : Goal). k.next ≤ 2 ^ 30 → GoalFits defs k) is fits few

  by_instruction : IsSoundProgram defs program → {i : Instr} {r : PRule} → Matched program i r → AppliesTo program at r → instruction_at program at ≡ Some i → ReadsHeld (method_at program at) at.state.slots i →
      GoalFitsIfLow (goal_by defs program at (Some i) r)
  by_instruction sound (assigns to term) applies is held = none_fits
  by_instruction sound (makes to kind args) applies is held = none_fits
  by_instruction sound (gets to slot kind field) applies is held =
      let fits = instr_fits defs program at wf sound (instr.Get to slot kind field) is in
      some_fits (node_goal defs at slot kind) (node_goal_fits slot kind field (All-head (IsHeld at.state.slots) slot [] held) fits.2)
  by_instruction sound (sets slot kind field from) applies is held =
      let fits = instr_fits defs program at wf sound (instr.Set slot kind field from) is in
      some_fits (node_goal defs at slot kind) (node_goal_fits slot kind field (All-head (IsHeld at.state.slots) slot (from ∷ []) held) fits.2)
  by_instruction sound (branches condition other) applies is held = none_fits
  by_instruction sound (jumps target) applies is held = none_fits
  by_instruction sound (calls to method args i there) applies is held =
      let fits = instr_fits defs program at wf sound (instr.Call to method args) is in
      let m = method_of program method in
      some_fits (call_goal at m (pair_of m i) args) (call_goal_fits m (pair_of m i) args (pair_fits defs program sound method i fits.0 there) held fits.2)
  by_instruction sound (returns from) applies is held =
      some_fits (return_goal program at from) (return_goal_fits from (pair_fits defs program sound at.method at.pair wf.method wf.pair) held)

pub asked_goals : AskedGoalsFit
asked_goals defs program sound at r wf form =
    by_rule program at (λ r o. (g : Goal) → goal_by defs program at o r ≡ Some g → g.next ≤ 2 ^ 30 → GoalFits defs g)
    (λ o g e few. absurd (no_goal_is_none g (sym (or_goal defs program at o) ∙ e)))
    (λ i k match applies is held. by_instruction defs program at wf sound match applies is held) r form
