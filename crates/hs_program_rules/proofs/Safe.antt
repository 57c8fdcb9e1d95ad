-- Right steps keep states safe, and concluded states are safe.
use Rattle.std.proofs.Common.{ℕ, zero, suc, ◌≡◌, ◌<◌, ◌⊎◌, inl, inr, IsTrue, List, [], ◌∷◌, map, Option, Some, None, refl, sym, ◌∙◌, subst, arith}
use Rattle.std.specs.List.{All}
use Rattle.std.proofs.lemmas.List.Elements.{All-head, All-tail}
use Rattle.hs_pure.specs.declared.var.Var.{Var}
use Rattle.hs_pure.specs.Stack.{Stack}
use Rattle.hs_pure.proofs.Lists.{All-left, All-right}
use Rattle.hs_heap.specs.declared.formula.Formula.{Formula}
use Rattle.hs_heap.specs.declared.definitions.Defs.{Defs}
use Rattle.hs_heap.specs.Heap.{Heap, IsHeap, Parts}
use Rattle.hs_heap.specs.Variables.{is_free_in_formula}
use Rattle.hs_heap.proofs.Least.{least, least_from_satisfies, satisfies_from_least}
use Rattle.hs_goal.specs.Classes.{IsSimple}
use Rattle.hs_rules.specs.Parts.{only, opened}
use Rattle.hs_core.specs.declared.instr.Instr.{Instr}
use Rattle.hs_core.specs.declared.instr.Instr.TheVariants as instr
use Rattle.hs_core.specs.declared.state.PRule.{PRule}
use Rattle.hs_core.specs.declared.state.PRule.TheVariants as rule
use Rattle.hs_core.specs.declared.program.Program.{Program}
use Rattle.hs_core.specs.declared.state.At.{At}
use Rattle.hs_core.specs.Machine.{Slots, Frame, Ending, called, StepsBy, EndsBy, IsFree}
use Rattle.hs_core.specs.Set.{reads}
use Rattle.hs_core.specs.Sound.{IsSoundProgram, PairFits}
use Rattle.hs_program_rules.specs.States.{IsHeld, StateFits, method_at, pair_at, instruction_at, entry}
use Rattle.hs_program_rules.specs.Parts.{goes}
use Rattle.hs_program_rules.specs.Table.{ReadsHeld, AppliesTo, goal_by, premises_by, opened_states}
use Rattle.hs_program_rules.specs.Safe.{Fits, frame_at, IsSafe, IsGoodEnd}
use Rattle.hs_program_rules.specs.Laws.{Entailed, IsAsked, IsRightStep, PairExists, EntriesAreSafe, RightStepsKeepSafe, Concluded, AllConcluded, ConcludedStatesAreSafe}
use Rattle.hs_program_rules.proofs.Through.{EndsIn, in_of_within}
use Rattle.hs_program_rules.proofs.Fitting.{SlotsFit-agrees, good_end_agrees}
use Rattle.hs_program_rules.proofs.Advance.{Advances, advance, AllAreSafe, IsOneOf}
use Rattle.hs_program_rules.proofs.Standing.{held_low, instr_fits}
use Rattle.hs_program_rules.proofs.Simple.{assign_advances, new_advances, branch_advances, jump_advances}
use Rattle.hs_program_rules.proofs.Access.{asked_node, get_advances, set_advances}
use Rattle.hs_program_rules.proofs.Opening.{open_case}
use Rattle.hs_program_rules.proofs.Pairs.{pair_fits}
use Rattle.hs_program_rules.proofs.Renaming.{cases_free_occur, occurs_low}
use Rattle.hs_program_rules.proofs.Returning.{return_ends_well}
use Rattle.hs_program_rules.proofs.Calling.{call_ends_well}
use Rattle.hs_program_rules.proofs.Matched.{Matched, assigns, makes, gets, sets, branches, jumps, calls, returns, matched}

module _ (defs : Defs) (program : Program) (sound : IsSoundProgram defs program) where
  own_pair : (at : At) → StateFits defs program at → PairFits defs (method_at program at) (pair_at program at)
  own_pair at wf = pair_fits defs program sound at.method at.pair wf.method wf.pair

  left_reads : (at : At) (from : Option ℕ) → ReadsHeld (method_at program at) at.state.slots (instr.Return from) → All (IsHeld at.state.slots) (reads (instr.Return from))
  left_reads at from all = All-left (IsHeld at.state.slots) (reads (instr.Return from)) (method_at program at).refs all

  right_reads : (at : At) (from : Option ℕ) → ReadsHeld (method_at program at) at.state.slots (instr.Return from) → All (IsHeld at.state.slots) (method_at program at).refs
  right_reads at from all = All-right (IsHeld at.state.slots) (reads (instr.Return from)) (method_at program at).refs all

  -- what is free in the own postcondition is below the state's next
  own_low : (at : At) → StateFits defs program at → (v : Var) → IsTrue (is_free_in_formula v (pair_at program at).post) → v.number < at.state.next
  own_low at wf v free =
      let pair = own_pair at wf in
      let low = occurs_low defs (method_at program at) (pair_at program at) pair (pair_at program at).post pair.post v (cases_free_occur (pair_at program at).post.cases v free) in
      let above = wf.not_below in omega arith

  module _ (n : ℕ) (entries : EntriesAreSafe defs program n) (at : At) (wf : StateFits defs program at) (residue : Formula) (ps : List At) (safe : AllAreSafe defs program n ps)
      (s : Stack) (slots : Slots) (h own rest : Heap) (is_heap : IsHeap h) (parts : Parts h own rest) (fits : Fits defs s at slots own) (e : Ending) (now : Heap) where
    abbrev IsGood : Type 0
    IsGood = IsGoodEnd defs (method_at program at) (pair_at program at) s rest e now

    goes_on : (gs : List Frame) (k : Heap) (g : Frame) → gs ≡ g ∷ [] → Advances defs at ps s rest g k → EndsIn program n gs k e now → IsGood
    goes_on gs k g is advances later =
        let P : List Frame → Type 0 = λ fs. EndsIn program n fs k e now in
        advance defs program n at ps s rest g k e now (own_low at wf) safe advances (subst P is later)

    -- the run ends at the state, or goes on by a step
    abbrev Turns : Instr → Type 0
    Turns i = (EndsBy program (Some i) (frame_at at slots) [] h e × (now ≡ h)) ⊎ ((gs : List Frame) × (k : Heap) × StepsBy IsFree program (Some i) (frame_at at slots) [] h gs k × EndsIn program n gs k e now)

    turn : {i : Instr} {r : PRule} → Matched program i r → instruction_at program at ≡ Some i → IsSimple at.state.formula → ReadsHeld (method_at program at) at.state.slots i →
        IsAsked (Entailed defs) (goal_by defs program at (Some i) r) residue → ps ≡ premises_by defs program at (Some i) r residue → Turns i → IsGood
    turn (assigns to term) is simple reads goal premises (inl (p, same)) = absurd p
    turn (assigns to term) is simple reads goal premises (inr (gs, k, (g, effect, top), later)) =
        goes_on gs k g top (assign_advances defs program at wf s slots h own rest is_heap parts fits to term residue ps g k (instr_fits defs program at wf sound (instr.Assign to term) is) simple reads premises effect) later
    turn (makes to kind args) is simple reads goal premises (inl (p, same)) = absurd p
    turn (makes to kind args) is simple reads goal premises (inr (gs, k, (g, effect, top), later)) =
        goes_on gs k g top (new_advances defs program at wf s slots h own rest is_heap parts fits to kind args residue ps g k (instr_fits defs program at wf sound (instr.New to kind args) is) simple reads premises effect) later
    turn (gets to slot kind field) is simple reads goal premises (inl ((missing, place), same)) =
        absurd (missing (asked_node defs program at wf s slots h own rest is_heap parts fits slot kind residue (All-head (IsHeld at.state.slots) slot [] reads) goal))
    turn (gets to slot kind field) is simple reads goal premises (inr (gs, k, (g, effect, top), later)) =
        goes_on gs k g top (get_advances defs program at wf s slots h own rest is_heap parts fits to slot kind field residue ps g k (instr_fits defs program at wf sound (instr.Get to slot kind field) is) reads goal premises effect) later
    turn (sets slot kind field from) is simple reads goal premises (inl ((missing, place), same)) =
        absurd (missing (asked_node defs program at wf s slots h own rest is_heap parts fits slot kind residue (All-head (IsHeld at.state.slots) slot (from ∷ []) reads) goal))
    turn (sets slot kind field from) is simple reads goal premises (inr (gs, k, (g, effect, top), later)) =
        goes_on gs k g top (set_advances defs program at wf s slots h own rest is_heap parts fits slot kind field from residue ps g k reads goal premises effect) later
    turn (branches condition other) is simple reads goal premises (inl (p, same)) = absurd p
    turn (branches condition other) is simple reads goal premises (inr (gs, k, (g, effect, top), later)) =
        goes_on gs k g top (branch_advances defs program at wf s slots h own rest is_heap parts fits condition other residue ps g k (instr_fits defs program at wf sound (instr.Branch condition other) is) simple reads premises effect) later
    turn (jumps target) is simple reads goal premises (inl (p, same)) = absurd p
    turn (jumps target) is simple reads goal premises (inr (gs, k, (g, effect, top), later)) =
        goes_on gs k g top (jump_advances defs program at wf s slots h own rest is_heap parts fits target residue ps g k premises effect) later
    turn (calls to method args i there) is simple reads goal premises (inl (p, same)) = absurd p
    turn (calls to method args i there) is simple reads goal premises (inr (gs, k, (called_is, same), later)) =
        let P : List Frame → Type 0 = λ fs. EndsIn program n fs k e now in
        let Q : Heap → Type 0 = λ j. EndsIn program n (called method (map slots args) ∷ frame_at at slots ∷ []) j e now in
        let fits_here = instr_fits defs program at wf sound (instr.Call to method args) is in
        call_ends_well defs program at wf s slots h own rest is_heap parts fits to method args i residue fits_here reads (pair_fits defs program sound method i fits_here.0 there)
        (sound.methods method fits_here.0).refs goal (own_low at wf) ps premises n (entries method i (fits_here.0, there)) safe e now is (subst Q same (subst P called_is later))
    turn (returns from) is simple reads goal premises (inl (ended, same)) =
        let P : Ending → Type 0 = λ f. IsGoodEnd defs (method_at program at) (pair_at program at) s rest f h in
        let Q : Heap → Type 0 = λ j. IsGoodEnd defs (method_at program at) (pair_at program at) s rest e j in
        subst Q (sym same) (subst P (sym ended) (return_ends_well defs program at wf (own_pair at wf) from (left_reads at from reads) (right_reads at from reads) s slots h own rest is_heap parts fits residue goal))
    turn (returns from) is simple reads goal premises (inr (gs, k, p, later)) = absurd p

  or_premises : (at : At) (residue : Formula) (i : Option Instr) → premises_by defs program at i rule.Or residue ≡ opened_states defs program at at.state.formula.cases
  or_premises at residue None = refl
  or_premises at residue (Some (instr.Assign to term)) = refl
  or_premises at residue (Some (instr.New to kind args)) = refl
  or_premises at residue (Some (instr.Get to slot kind field)) = refl
  or_premises at residue (Some (instr.Set slot kind field from)) = refl
  or_premises at residue (Some (instr.Branch condition other)) = refl
  or_premises at residue (Some (instr.Jump target)) = refl
  or_premises at residue (Some (instr.Call to method args)) = refl
  or_premises at residue (Some (instr.Return from)) = refl

  module _ (n : ℕ) (entries : EntriesAreSafe defs program n) (at : At) (ps : List At) (safe : AllAreSafe defs program n ps) where
    -- by the rule of the instruction
    by_instruction : (r : PRule) → AppliesTo program at r → IsRightStep defs program (Entailed defs) r at ps → IsSafe defs program (suc n) at
    by_instruction r applies step = record {
      ends_well = λ s slots h own rest e now is_heap parts fits within.
          let P : Option Instr → Type 0 = λ i. (EndsBy program i (frame_at at slots) [] h e × (now ≡ h)) ⊎ ((gs : List Frame) × (k : Heap) × StepsBy IsFree program i (frame_at at slots) [] h gs k × EndsIn program n gs k e now) in
          let G : Option Instr → Type 0 = λ i. IsAsked (Entailed defs) (goal_by defs program at i r) step.residue in
          let S : Option Instr → Type 0 = λ i. ps ≡ premises_by defs program at i r step.residue in
          turn n entries at step.fits step.residue ps safe s slots h own rest is_heap parts fits e now (matched program applies.instr r applies.rule_of) applies.is applies.simple applies.held
          (subst G applies.is step.goal) (subst S applies.is step.premises_are) (subst P applies.is (in_of_within program (suc n) (frame_at at slots ∷ []) h e now within));
    }

    -- by the disjuncts of the state
    by_disjuncts : AllAreSafe defs program (suc n) ps → IsRightStep defs program (Entailed defs) rule.Or at ps → IsSafe defs program (suc n) at
    by_disjuncts safe_now step = record {
      ends_well = λ s slots h own rest e now is_heap parts fits within.
          let wf = step.fits in
          let o = open_case (least defs) defs program at s own at.state.formula.cases wf.formula (least_from_satisfies defs s own at.state.formula fits.formula) in
          let P : List At → Type 0 = λ qs. AllAreSafe defs program (suc n) qs in
          let next = goes at at.point at.state.slots (only (opened o.case at.state.next)) in
          let premise = (subst P (step.premises_are ∙ or_premises at step.residue (instruction_at program at)) safe_now) next o.among in
          let fit = SlotsFit-agrees at.state.next at.state.slots s o.stack slots o.agrees (held_low defs program at wf) fits.slots_fit in
          let formula = satisfies_from_least defs o.stack own (only (opened o.case at.state.next)) o.holds in
          good_end_agrees defs (method_at program at) (pair_at program at) at.state.next s o.stack rest e now (own_low at wf) o.agrees
          (premise.ends_well o.stack slots h own rest e now is_heap parts (record { slots_fit = fit; formula = formula }) within);
    }

    -- a right step is safe for one more step
    step_safe : AllAreSafe defs program (suc n) ps → (r : PRule) → IsRightStep defs program (Entailed defs) r at ps → IsSafe defs program (suc n) at
    step_safe safe_now rule.Or step = by_disjuncts safe_now step
    step_safe safe_now rule.Assign step = by_instruction rule.Assign step.form step
    step_safe safe_now rule.New step = by_instruction rule.New step.form step
    step_safe safe_now rule.Get step = by_instruction rule.Get step.form step
    step_safe safe_now rule.Set step = by_instruction rule.Set step.form step
    step_safe safe_now rule.Branch step = by_instruction rule.Branch step.form step
    step_safe safe_now rule.Jump step = by_instruction rule.Jump step.form step
    step_safe safe_now (rule.Call i) step = by_instruction (rule.Call i) step.form step
    step_safe safe_now rule.Return step = by_instruction rule.Return step.form step

all_are_safe : (defs : Defs) (program : Program) (n : ℕ) (ps : List At) → All (IsSafe defs program n) ps → AllAreSafe defs program n ps
all_are_safe defs program n [] safe p among = absurd among
all_are_safe defs program n (q ∷ ps) safe p (inl is) = subst (IsSafe defs program n) is (All-head (IsSafe defs program n) q ps safe)
all_are_safe defs program n (q ∷ ps) safe p (inr among) = all_are_safe defs program n ps (All-tail (IsSafe defs program n) q ps safe) p among

pub right_steps_keep : RightStepsKeepSafe
right_steps_keep defs program sound n entries at r ps step safe safe_now =
    step_safe defs program sound n entries at ps (all_are_safe defs program n ps safe) (all_are_safe defs program (suc n) ps safe_now) r step

-- ---- concluded states

module _ (defs : Defs) (program : Program) (sound : IsSoundProgram defs program) where
  concluded_among : {ps : List At} → AllConcluded defs program ps → (p : At) → IsOneOf p ps → Concluded defs program p
  concluded_among AllConcluded.nothing p among = absurd among
  concluded_among (AllConcluded.more c cs) p (inl is) = subst (Concluded defs program) is c
  concluded_among (AllConcluded.more c cs) p (inr among) = concluded_among cs p among

  module _ (starts : (m i : ℕ) → PairExists program m i → Concluded defs program (entry program m i)) where
    module _ (n : ℕ) (before : (at : At) → Concluded defs program at → IsSafe defs program n at) where
      mutual
        safe_now : {at : At} → Concluded defs program at → IsSafe defs program (suc n) at
        safe_now (Concluded.by at r ps step premises) =
            step_safe defs program sound n (λ m i there. before (entry program m i) (starts m i there)) at ps (λ p among. before p (concluded_among premises p among)) (all_safe_now premises) r step

        all_safe_now : {ps : List At} → AllConcluded defs program ps → AllAreSafe defs program (suc n) ps
        all_safe_now AllConcluded.nothing p among = absurd among
        all_safe_now (AllConcluded.more c cs) p (inl is) = subst (IsSafe defs program (suc n)) is (safe_now c)
        all_safe_now (AllConcluded.more c cs) p (inr among) = all_safe_now cs p among

    concluded_safe : (n : ℕ) (at : At) → Concluded defs program at → IsSafe defs program n at
    concluded_safe zero at c = record { ends_well = λ s slots h own rest e now is_heap parts fits within. let few = within.few in absurd (omega arith) }
    concluded_safe (suc n) at c = safe_now n (concluded_safe n) c

pub all_concluded_safe : ConcludedStatesAreSafe
all_concluded_safe defs program sound starts at c n = concluded_safe defs program sound starts n at c
