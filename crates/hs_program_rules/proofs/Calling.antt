-- The rule of a call.
use Rattle.std.proofs.Common.{ℕ, ℤ, ◌≡◌, ◌+◌, ◌<◌, ◌≤◌, max, ◌⊎◌, inl, inr, true, IsTrue, List, [], ◌∷◌, ◌++◌, length, map, Option, Some, None, refl, sym, ◌∙◌, ap, subst, arith}
use Rattle.std.specs.List.{All, list_any}
use Rattle.std.proofs.lemmas.Bool.{or_cases}
use Rattle.hs_pure.specs.declared.var.Var.{Var}
use Rattle.hs_pure.specs.Stack.{Stack, Value, number_value}
use Rattle.hs_pure.proofs.Lists.{All-weaker}
use Rattle.hs_heap.specs.declared.formula.Disjunct.{Disjunct}
use Rattle.hs_heap.specs.declared.formula.Formula.{Formula}
use Rattle.hs_heap.specs.declared.definitions.Defs.{Defs}
use Rattle.hs_heap.specs.Heap.{Heap, IsHeap, Parts}
use Rattle.hs_heap.specs.Meaning.{is_in, Satisfies, FormulaHolds}
use Rattle.hs_heap.specs.Variables.{is_free_in_disjunct, is_free_in_formula, occurs_in_disjunct, occurs_in_formula}
use Rattle.hs_heap.specs.Renamed.{renamed_formula, is_bound_in_disjunct, is_bound_in_formula}
use Rattle.hs_heap.specs.Sound.{DisjunctFits, kinds}
use Rattle.hs_heap.proofs.Booleans.{bool_cases, clash}
use Rattle.hs_heap.proofs.Stacks.{with_value-same}
use Rattle.hs_heap.proofs.Splits.{swap_parts, all_right, regroup, IsHeap-left}
use Rattle.hs_heap.proofs.Atoms.{regroup_right, bring_out}
use Rattle.hs_heap.proofs.Least.{least, satisfies_from_least, least_from_satisfies}
use Rattle.hs_heap.proofs.Lists.{any_forth, any_back}
use Rattle.hs_heap.proofs.Free.{cases_agree}
use Rattle.hs_heap.proofs.Renaming.{before, cases_renamed, renamed_cases}
use Rattle.hs_heap.proofs.Sources.{list_source, cases_source, cases_bound_source, cases_occurs_source}
use Rattle.hs_rules.proofs.Fits.{cases_below}
use Rattle.hs_rules.proofs.Holds.{holds_into}
use Rattle.hs_core.specs.declared.instr.Instr.{Instr}
use Rattle.hs_core.specs.declared.instr.Instr.TheVariants as instr
use Rattle.hs_core.specs.declared.program.Pair.{Pair}
use Rattle.hs_core.specs.declared.program.Method.{Method}
use Rattle.hs_core.specs.declared.program.Program.{Program}
use Rattle.hs_core.specs.declared.state.At.{At}
use Rattle.hs_core.specs.Machine.{Slots, Frame, Returned, Ending, Faulted, Finished, called, Resumes, TakesResult, all_updated, picked, instruction, method_of}
use Rattle.hs_core.specs.Sound.{IsUpTo, InstrFits, TakesFit, AreRising, PairFits, param_vars, reserved_vars}
use Rattle.hs_program_rules.specs.States.{Held, variable_in, StateFits, method_at, pair_at, pair_of, entry}
use Rattle.hs_goal.specs.declared.goal.Goal.{Goal}
use Rattle.hs_rules.proofs.Variables.{is_in-append}
use Rattle.hs_program_rules.specs.Parts.{with_held, call_renaming, new_number, variables_in, result_var, last_vars, all_held, result_held, all_joined, after_call}
use Rattle.hs_program_rules.specs.Table.{ReadsHeld, call_goal, after_call_of}
use Rattle.hs_program_rules.specs.Laws.{Entailed}
use Rattle.hs_program_rules.specs.Safe.{Fits, SlotsFit, frame_at, IsSafe, IsGoodEnd, EndsWell, stack_after, with_numbers, with_result}
use Rattle.hs_program_rules.proofs.Through.{EndsIn, through, within_of_in}
use Rattle.hs_program_rules.proofs.Fitting.{AgreeBelow, held_values, SlotsFit-set, SlotsFit-agrees, good_end_agrees}
use Rattle.hs_program_rules.proofs.Advance.{AllAreSafe, only_one}
use Rattle.hs_program_rules.proofs.Simple.{slots_at}
use Rattle.hs_program_rules.proofs.Standing.{map_length, from_length, from_numbers, number_kinds, held_low, slot_there, held_numbers, held_below}
use Rattle.hs_program_rules.proofs.Pairs.{logic_no_other}
use Rattle.hs_program_rules.proofs.Joining.{all_joined_holds}
use Rattle.hs_program_rules.proofs.Values.{all_held-length, SlotsFit-all_held, picked_there, entry_holds, param_value}
use Rattle.hs_program_rules.proofs.Renaming.{IsBoundOf, reserved_of_pair, logic_of_pair, post_known, post_free_known, post_bound, occurs_low, keeps, param_low, other_high, all_under, apart, pre_apart, post_apart, after, after_out, after_renamed, refs_values}

not_less : (a b : ℕ) → a ≤ max a b
not_less a b = omega arith

-- what is free in a precondition is a parameter or a logic variable
free_among : (defs : Defs) (vs : List Var) (next : ℕ) (ds : List Disjunct) → All (DisjunctFits defs vs next) ds → (v : Var) → IsTrue (list_any (is_free_in_disjunct v) ds) → IsTrue (is_in v vs)
free_among defs vs next ds fits v e =
    any_forth is_free_in_disjunct (λ (u : Var). IsTrue (is_in u vs)) ds (All-weaker (DisjunctFits defs vs next) (λ d. (u : Var) → IsTrue (is_free_in_disjunct u d) → IsTrue (is_in u vs)) (λ d f. f.among) ds fits) v e

module _ (defs : Defs) (program : Program) (at : At) (wf : StateFits defs program at) (s : Stack) (slots : Slots) (h own rest : Heap)
    (is_heap : IsHeap h) (parts : Parts h own rest) (fits : Fits defs s at slots own)
    (to : Option ℕ) (method : ℕ) (args : List ℕ) (number : ℕ) (residue : Formula) (instr_fits : InstrFits defs program (method_at program at) at.point (instr.Call to method args))
    (reads : ReadsHeld (method_at program at) at.state.slots (instr.Call to method args)) (pair : PairFits defs (method_of program method) (pair_of (method_of program method) number))
    (rising : AreRising (method_of program method).params 0 (method_of program method).refs)
    (entailed : Entailed defs (call_goal at (method_of program method) (pair_of (method_of program method) number) args) residue) where
  abbrev m : Method
  m = method_of program method

  abbrev p : Pair
  p = pair_of m number

  abbrev n : ℕ
  n = at.state.next

  abbrev held : Held
  held = at.state.slots

  abbrev vars : List Var
  vars = variables_in held args

  size : length vars ≡ m.params
  size = map_length (variable_in held) args ∙ instr_fits.2

  arity : kinds (param_vars m) ≡ kinds vars
  arity = number_kinds (param_vars m) vars (from_numbers 1 m.params) (held_numbers defs program at wf args reads) (from_length 1 m.params ∙ sym size)

  low : All (λ (v : Var). v.number < n) vars
  low = held_below defs program at wf args reads

  abbrev ρ : Var → Var
  ρ = call_renaming m p vars n

  abbrev goal : Goal
  goal = call_goal at m p args

  goal_above : after_call m p n ≤ goal.next
  goal_above = not_less (after_call m p n) _

  abbrev callee_slots : Slots
  callee_slots = (called method (map slots args)).slots

  -- the callee's frame fits its pair's start
  pub record Entered : Type 0 where
    pub stack : Stack
    pub agrees : AgreeBelow n s stack
    pub part : Heap
    pub others : Heap
    pub split : Parts own part others
    pub fits_entry : Fits defs (before ρ stack) (entry program method number) callee_slots part
    pub residue_holds : FormulaHolds (least defs) stack others residue

  pub entered : Entered
  entered =
      let out = (holds_into defs (length own) goal residue (entailed.holds (length own))).splits s own [] own (IsHeap-left parts is_heap) (omega arith) (all_right own) refl
      (least_from_satisfies defs s own at.state.formula fits.formula) in
      let t = out.at in
      let agree : AgreeBelow n s t = λ v less. elim (bool_cases (is_in v (map ρ p.logic))) [
        | inl is ↦
            let (y, logic, e) = list_source ρ p.logic v is in
            let high = other_high defs m p pair vars n arity low y (logic_of_pair defs m p pair y logic) in
            let k : v.number ≡ (ρ y).number = ap (λ (u : Var). u.number) e in absurd (omega arith)
        | inr isnt ↦ sym (out.same.same v isnt)
      ] in
      let fit = slots_at defs program at wf s slots h own rest is_heap parts fits t agree in
      record {
        stack = t;
        agrees = agree;
        part = out.part;
        others = out.rest;
        split = out.parts;
        fits_entry = record {
          slots_fit = λ k v e.
              let (there, is) = entry_holds m k v e in
              let value = param_value m vars (map slots args) (new_number m p n) t k there size (held_values held t slots args fit reads) in
              sym value ∙ ap (λ u. (t (ρ u)).number) (sym is);
          formula = satisfies_from_least defs (before ρ t) out.part p.pre
              (cases_renamed ρ (keeps defs m p pair vars n arity low) (least defs) t (before ρ t) out.part p.pre.cases (λ v e. refl) (pre_apart defs m p pair vars n arity low) out.right_holds);
        };
        residue_holds = out.residue_holds;
      }

  abbrev passed_held : Held
  passed_held = all_held held (picked args m.refs) (map ρ (last_vars m))

  abbrev next_held : Held
  next_held = result_held to (ρ (result_var m)) passed_held

  abbrev next_state : At
  next_state = after_call_of defs program at m p to args residue

  module _ (e : Entered) (value : Returned) (returned : length value.refs ≡ length m.refs) where
    abbrev w : Stack
    w = after defs m p pair vars n arity low value e.stack

    -- what becomes of the reserved variables is new
    reserved_high : (v : Var) → is_in v (map ρ (reserved_vars m)) ≡ true → n ≤ v.number
    reserved_high v i =
        let (y, reserved, same) = list_source ρ (reserved_vars m) v i in
        let high = other_high defs m p pair vars n arity low y (reserved_of_pair defs m p pair y reserved) in
        let k : v.number ≡ (ρ y).number = ap (λ (u : Var). u.number) same in omega arith

    agree_after : AgreeBelow n s w
    agree_after v less = elim (bool_cases (is_in v (map ρ (reserved_vars m)))) [
      | inl is ↦ let high = reserved_high v is in absurd (omega arith)
      | inr isnt ↦ e.agrees v less ∙ sym (after_out defs m p pair vars n arity low value e.stack v isnt)
    ]

    -- a free variable of the residue is the state's, or stands for a parameter or a logic variable
    residue_free : (v : Var) → IsTrue (is_free_in_formula v residue) → (v.number < n) ⊎ ((y : Var) × (v ≡ ρ y) × (is_in y p.logic ≡ true))
    residue_free v free = elim (or_cases (is_free_in_formula v at.state.formula) (is_free_in_formula v (renamed_formula ρ p.pre)) (entailed.fresh.free v free)) [
      | inl left ↦ inl (cases_below defs n at.state.formula.cases wf.formula v left)
      | inr right ↦
          let (y, has, same) = cases_source ρ p.pre.cases v right in
          let among = free_among defs (param_vars m ++ p.logic) p.next p.pre.cases pair.pre y has in
          elim (or_cases (is_in y (param_vars m)) (is_in y p.logic) (sym (is_in-append y (param_vars m) p.logic) ∙ among)) [
            | inl param ↦
                let less = param_low defs m p pair vars n arity low y param in
                let k : v.number ≡ (ρ y).number = ap (λ (u : Var). u.number) same in inl (omega arith)
            | inr logic ↦ inr (y, same, logic)
          ]
    ]

    residue_after : FormulaHolds (least defs) w e.others residue
    residue_after = cases_agree (least defs) residue.cases e.stack w e.others
        (λ v free. elim (bool_cases (is_in v (map ρ (reserved_vars m)))) [
          | inl is ↦ elim (residue_free v free) [
            | inl less ↦ let high = reserved_high v is in absurd (omega arith)
            | inr (y, same, logic) ↦
                let (z, reserved, also) = list_source ρ (reserved_vars m) v is in
                let one = apart defs m p pair vars n arity low y z (inr (logic_of_pair defs m p pair y logic)) (reserved_of_pair defs m p pair z reserved) (sym same ∙ also) in
                let O : Var → Type 0 = λ u. is_in u (reserved_vars m) ≡ true in
                clash (subst O (sym one) reserved) (logic_no_other defs m p pair y logic).1
          ]
          | inr isnt ↦ sym (after_out defs m p pair vars n arity low value e.stack v isnt)
        ]) e.residue_holds

    -- what the renamed postcondition binds
    abbrev New : Var → Type 0
    New v = (b : Var) × IsBoundOf defs m p pair b × (v ≡ ρ b)

    new_low : (v : Var) → New v → v.number < goal.next
    new_low v (b, bound, same) =
        let under = all_under defs m p pair vars n arity low b (inr bound.of_pair) bound.low in
        let k : v.number ≡ (ρ b).number = ap (λ (u : Var). u.number) same in
        let g = goal_above in omega arith

    residue_apart : (v : Var) → IsTrue (is_free_in_formula v residue) → New v → ⊥
    residue_apart v free (b, bound, same) =
        let high = other_high defs m p pair vars n arity low b bound.of_pair in
        let k : v.number ≡ (ρ b).number = ap (λ (u : Var). u.number) same in
        elim (residue_free v free) [
          | inl less ↦ omega arith
          | inr (y, also, logic) ↦
              let one = apart defs m p pair vars n arity low y b (inr (logic_of_pair defs m p pair y logic)) bound.of_pair (sym also ∙ same) in
              let O : Var → Type 0 = λ u. is_in u p.logic ≡ true in
              clash (subst O one logic) bound.none.not_logic
        ]

    post_low : (v : Var) → IsTrue (occurs_in_formula v (renamed_formula ρ p.post)) → v.number < goal.next
    post_low v o =
        let (y, occurs, same) = cases_occurs_source ρ p.post.cases v o in
        let under = all_under defs m p pair vars n arity low y (post_known defs m p pair y occurs) (occurs_low defs m p pair p.post pair.post y occurs) in
        let k : v.number ≡ (ρ y).number = ap (λ (u : Var). u.number) same in
        let g = goal_above in omega arith

    post_new : (v : Var) → IsTrue (is_bound_in_formula v (renamed_formula ρ p.post)) → New v
    post_new v o = let (y, bound, same) = cases_bound_source ρ p.post.cases v o in (y, post_bound defs m p pair y bound, same)

    post_after : (part : Heap) → Satisfies defs (stack_after m value (before ρ e.stack)) part p.post → FormulaHolds (least defs) w part (renamed_formula ρ p.post)
    post_after part post =
        renamed_cases ρ (keeps defs m p pair vars n arity low) (least defs) w (stack_after m value (before ρ e.stack)) part p.post.cases
        (λ v free. after_renamed defs m p pair vars n arity low value e.stack v (post_free_known defs m p pair v free))
        (post_apart defs m p pair vars n arity low) (least_from_satisfies defs (stack_after m value (before ρ e.stack)) part p.post post)

    passed : SlotsFit passed_held w (all_updated (picked args m.refs) value.refs slots)
    passed =
        SlotsFit-all_held held (picked args m.refs) (map ρ (last_vars m)) value.refs w slots (refs_values defs m p pair vars n arity low value e.stack returned)
        (picked_there (length held) m.params args 0 m.refs instr_fits.2 args_there rising)
        (SlotsFit-agrees n held s w slots agree_after (held_low defs program at wf) fits.slots_fit)
      where
        args_there : All (IsUpTo (length held)) args
        args_there = All-weaker (IsUpTo (method_at program at).slots) (IsUpTo (length held)) (λ k. slot_there defs program at wf k) args instr_fits.1

    fits_slots : (o : Option ℕ) (result : Option ℤ) (given : Slots) → value.result ≡ result → TakesFit (method_at program at).slots m.result o → TakesResult o result (all_updated (picked args m.refs) value.refs slots) given →
        SlotsFit (result_held o (ρ (result_var m)) passed_held) w given
    fits_slots None result given same there takes =
        let P : Slots → Type 0 = λ f. SlotsFit passed_held w f in
        subst P (sym takes) passed
    fits_slots (Some k) None given same there takes = absurd takes
    fits_slots (Some k) (Some a) given same there takes =
        let u = ρ (result_var m) in
        let g = with_numbers (map ρ (last_vars m)) value.refs e.stack in
        let V : Option ℤ → Type 0 = λ o. a ≡ (with_result u o g u).number in
        let here : a ≡ (w u).number = subst V (sym same) (sym (ap (λ (y : Value). y.number) (with_value-same u (number_value a) g))) in
        let P : Slots → Type 0 = λ f. SlotsFit (with_held passed_held k u) w f in
        let (low_k, high_k) = slot_there defs program at wf k there.0 in
        let size_k = all_held-length held (picked args m.refs) (map ρ (last_vars m)) in
        subst P (sym takes) (SlotsFit-set passed_held w (all_updated (picked args m.refs) value.refs slots) k u a (low_k, omega arith) passed here)

    -- the caller fits the next state on what the residue and the postcondition hold of
    fits_next : (given : Slots) (now_own part : Heap) → TakesResult to value.result (all_updated (picked args m.refs) value.refs slots) given → Parts now_own e.others part →
        Satisfies defs (stack_after m value (before ρ e.stack)) part p.post → Fits defs w next_state given now_own
    fits_next given now_own part takes split post = record {
      slots_fit = fits_slots to value.result given refl instr_fits.3 takes;
      formula = satisfies_from_least defs w now_own (all_joined residue (renamed_formula ρ p.post))
          (all_joined_holds (least defs) goal.next New new_low w residue.cases (renamed_formula ρ p.post).cases entailed.fresh.bound residue_apart
          (any_back occurs_in_disjunct (λ (v : Var). v.number < goal.next) (renamed_formula ρ p.post).cases post_low)
          (any_back is_bound_in_disjunct New (renamed_formula ρ p.post).cases post_new) split residue_after (post_after part post));
    }

  -- the caller after a return: it fits the next state beside what nobody owns any more and the rest
  pub record Resumed (left : Heap) (k : Heap) (caller : Frame) : Type 0 where
    pub stack : Stack
    pub agrees : AgreeBelow n s stack
    pub given : Slots
    pub kept_own : Heap
    pub frozen : Heap
    pub own_parts : Parts k kept_own frozen
    pub frozen_parts : Parts frozen left rest
    pub fits_state : Fits defs stack next_state given kept_own
    pub caller_is : caller ≡ frame_at next_state given

  -- the callee's heap, and what is kept from it
  pub record Kept (e : Entered) : Type 0 where
    pub heap : Heap
    pub whole : Parts h e.part heap
    pub rest_parts : Parts heap e.others rest

  kept : (e : Entered) → Kept e
  kept e = let (others_rest, rest_parts, whole) = regroup_right parts e.split in record { heap = others_rest; whole = whole; rest_parts = rest_parts }

  resume : (e : Entered) (kept : Kept e) (v : Returned) (k : Heap) (caller : Frame) (good : EndsWell defs m p (before ρ e.stack) kept.heap v k) →
      Resumes program (Some (instr.Call to method args)) (frame_at at slots) v caller → Resumed good.other k caller
  resume e kept v k caller good (given, takes, caller_is) =
      let (left_over, over_parts, over_whole) = regroup_right good.parts good.inner in
      let (frozen, frozen_parts, frozen_whole) = bring_out over_parts kept.rest_parts in
      let (now_own, own_parts, own_whole) = regroup over_whole frozen_whole in
      record {
        stack = w e v good.arity;
        agrees = agree_after e v good.arity;
        given = given;
        kept_own = now_own;
        frozen = frozen;
        own_parts = own_whole;
        frozen_parts = frozen_parts;
        fits_state = fits_next e v good.arity given now_own good.part takes (swap_parts own_parts) good.post;
        caller_is = caller_is;
      }

  -- what nobody owns any more counts as the own heap's
  less_rest : (end : Ending) (now : Heap) (frozen left beside : Heap) → Parts frozen left beside → (t : Stack) → IsGoodEnd defs (method_at program at) (pair_at program at) t frozen end now →
      IsGoodEnd defs (method_at program at) (pair_at program at) t beside end now
  less_rest (Faulted q) now frozen left beside split t good = good
  less_rest (Finished v) now frozen left beside split t good =
      let (now_own, own_parts, own_whole) = regroup good.parts split in
      let (b, inner, outer) = regroup_right own_parts good.inner in
      record { own = now_own; parts = own_whole; part = good.part; other = b; inner = outer; post = good.post; is_heap = good.is_heap; arity = good.arity }

  module _ (own_low : (v : Var) → IsTrue (is_free_in_formula v (pair_at program at).post) → v.number < at.state.next) (ps : List At) (premises : ps ≡ next_state ∷ []) (k : ℕ)
      (callee_safe : IsSafe defs program k (entry program method number)) (safe : AllAreSafe defs program k ps) where
    pub call_ends_well : (end : Ending) (now : Heap) → instruction program (frame_at at slots) ≡ Some (instr.Call to method args) → EndsIn program k (called method (map slots args) ∷ frame_at at slots ∷ []) h end now →
        IsGoodEnd defs (method_at program at) (pair_at program at) s rest end now
    call_ends_well end now is_call ends =
        let e = entered in
        let over = kept e in
        elim (through program k (called method (map slots args)) [] (frame_at at slots) [] h end now ends) [
          | inl faults ↦ absurd (callee_safe.ends_well (before ρ e.stack) callee_slots h e.part over.heap (Faulted faults.place) now is_heap over.whole e.fits_entry
              (within_of_in program k (called method (map slots args) ∷ []) h (Faulted faults.place) now faults.ends))
          | inr on ↦
              let good = callee_safe.ends_well (before ρ e.stack) callee_slots h e.part over.heap (Finished on.value) on.heap is_heap over.whole e.fits_entry
              (within_of_in program k (called method (map slots args) ∷ []) h (Finished on.value) on.heap on.finished) in
              let R : Option Instr → Type 0 = λ i. Resumes program i (frame_at at slots) on.value on.caller in
              let back = resume e over on.value on.heap on.caller good (subst R is_call on.resumes) in
              let P : Frame → Type 0 = λ f. EndsIn program k (f ∷ []) on.heap end now in
              let ended = (safe next_state (only_one next_state ps premises)).ends_well back.stack back.given on.heap back.kept_own back.frozen end now good.is_heap back.own_parts back.fits_state
              (within_of_in program k (frame_at next_state back.given ∷ []) on.heap end now (subst P back.caller_is on.later)) in
              good_end_agrees defs (method_at program at) (pair_at program at) n s back.stack rest end now own_low back.agrees (less_rest end now back.frozen good.other rest back.frozen_parts back.stack ended)
        ]
