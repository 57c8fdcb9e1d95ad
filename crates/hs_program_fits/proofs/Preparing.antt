-- The start of a pair is prepared, and further premises stay prepared.
use Rattle.std.proofs.Common.{ℕ, suc, ◌≡◌, Bool, ◌++◌, inl, inr, List, [], ◌∷◌, length, map, Option, Some, None, refl, sym, subst, arith}
use Rattle.std.specs.List.{All}
use Rattle.std.proofs.lemmas.List.Elements.{All-nil, All-cons, All-map}
use Rattle.hs_pure.specs.declared.var.Var.{Var}
use Rattle.hs_pure.specs.declared.pure.Pure.TheVariants as pure_of
use Rattle.hs_pure.specs.Rename.{renamed}
use Rattle.hs_heap.specs.declared.formula.Disjunct.{Disjunct}
use Rattle.hs_heap.specs.declared.formula.Formula.{Formula}
use Rattle.hs_heap.specs.declared.definitions.Defs.{Defs}
use Rattle.hs_rules.specs.Parts.{only, opened}
use Rattle.hs_core.specs.declared.instr.Instr.{Instr}
use Rattle.hs_core.specs.declared.instr.Instr.TheVariants as instr
use Rattle.hs_core.specs.declared.state.PRule.{PRule}
use Rattle.hs_core.specs.declared.program.Method.{Method}
use Rattle.hs_core.specs.declared.program.Program.{Program}
use Rattle.hs_core.specs.declared.state.At.{At}
use Rattle.hs_core.specs.Machine.{method_of, picked}
use Rattle.hs_core.specs.Set.{Path, writes, optional, GoesTo, IsGiven}
use Rattle.hs_core.specs.Sound.{IsUpTo, TakesFit, IsSoundProgram}
use Rattle.hs_program_rules.specs.States.{Held, IsHeld, StateFits, method_at, instruction_at, pair_of}
use Rattle.hs_program_rules.specs.Parts.{with_held, all_held, result_held, goes, call_renaming, result_var, last_vars, variables_in}
use Rattle.hs_program_rules.specs.Table.{premises_by, opened_states, over_variables, with_conjuncts}
use Rattle.hs_program_rules.proofs.Matched.{Matched, assigns, makes, gets, sets, branches, jumps, calls, returns}
use Rattle.hs_program_rules.proofs.Standing.{instr_fits, slot_there}
use Rattle.hs_program_rules.proofs.Values.{all_held-length}
use Rattle.hs_program_fits.specs.Prepared.{IsPrepared}
use Rattle.hs_program_fits.specs.Laws.{EntriesArePrepared, PremisesArePrepared}
use Rattle.hs_program_fits.proofs.Rules.{or_premises, by_rule}
use Rattle.hs_program_fits.proofs.Holding.{with_held-keeps, with_held-holds, all_held-keeps, written_or_given, entry_held-holds}

pub entries_prepared : EntriesArePrepared
entries_prepared defs program sound m i there = record {
  written = [];
  path = Path.begin;
  held = λ k up given. elim given [
    | inl low ↦ entry_held-holds (method_of program m) k (up.0, low)
    | inr (j, less, is) ↦ absurd (omega arith)
  ];
}

module _ (defs : Defs) (program : Program) (sound : IsSoundProgram defs program) (at : At) (wf : StateFits defs program at) (prepared : IsPrepared program at) where
  abbrev m : Method
  m = method_at program at

  -- each slot that is given holds a variable
  abbrev HoldsGiven : List ℕ → Held → Type 0
  HoldsGiven written held = (k : ℕ) → IsUpTo m.slots k → IsGiven m written k → IsHeld held k

  -- at the next point of a path
  goes_prepared : (i : Instr) → instruction_at program at ≡ Some i → (j : ℕ) → GoesTo i at.point j → (held : Held) (f : Formula) → HoldsGiven (writes i ++ prepared.written) held → IsPrepared program (goes at j held f)
  goes_prepared i is j to held f holds = record {
    written = writes i ++ prepared.written;
    path = Path.more at.point j prepared.written i prepared.path is to;
    held = holds;
  }

  -- one more slot gets a variable
  set_holds : (held : Held) → length held ≡ length at.state.slots → ((k : ℕ) → IsHeld at.state.slots k → IsHeld held k) → (to : ℕ) (u : Var) → IsUpTo m.slots to →
      HoldsGiven (to ∷ prepared.written) (with_held held to u)
  set_holds held size keeps to u there k up given = elim (written_or_given m to prepared.written k given) [
    | inl is ↦
        let (low, high) = slot_there defs program at wf to there in
        subst (IsHeld (with_held held to u)) is (with_held-holds held to u (low, omega arith))
    | inr before ↦ with_held-keeps held to k u (keeps k (prepared.held k up before))
  ]

  own_set : (to : ℕ) (u : Var) → IsUpTo m.slots to → HoldsGiven (to ∷ prepared.written) (with_held at.state.slots to u)
  own_set to u there = set_holds at.state.slots refl (λ k e. e) to u there

  result_holds : (result : Bool) (held : Held) → length held ≡ length at.state.slots → ((k : ℕ) → IsHeld at.state.slots k → IsHeld held k) → (to : Option ℕ) (u : Var) → TakesFit m.slots result to →
      HoldsGiven (optional to ++ prepared.written) (result_held to u held)
  result_holds result held size keeps None u fits = λ k up given. keeps k (prepared.held k up given)
  result_holds result held size keeps (Some to) u fits = set_holds held size keeps to u fits.0

  abbrev ArePrepared : List At → Type 0
  ArePrepared ps = All (IsPrepared program) ps

  one : (p : At) → IsPrepared program p → ArePrepared (p ∷ [])
  one p h = All-cons (IsPrepared program) p [] h (All-nil (IsPrepared program))

  -- at the same point
  opened_prepared : (ds : List Disjunct) → ArePrepared (opened_states defs program at ds)
  opened_prepared ds = All-map (IsPrepared program) (λ d. goes at at.point at.state.slots (only (opened d at.state.next))) ds
      (λ i d less. record { written = prepared.written; path = prepared.path; held = prepared.held })

  by_instruction : {i : Instr} {r : PRule} → Matched program i r → instruction_at program at ≡ Some i → (residue : Formula) → ArePrepared (premises_by defs program at (Some i) r residue)
  by_instruction (assigns to term) is residue =
      let fits = instr_fits defs program at wf sound (instr.Assign to term) is in
      one _ (goes_prepared (instr.Assign to term) is (suc at.point) refl _ _ (own_set to _ fits.0))
  by_instruction (makes to kind args) is residue =
      let fits = instr_fits defs program at wf sound (instr.New to kind args) is in
      one _ (goes_prepared (instr.New to kind args) is (suc at.point) refl _ _ (own_set to _ fits.0))
  by_instruction (gets to slot kind field) is residue =
      let fits = instr_fits defs program at wf sound (instr.Get to slot kind field) is in
      one _ (goes_prepared (instr.Get to slot kind field) is (suc at.point) refl _ _ (own_set to _ fits.0))
  by_instruction (sets slot kind field from) is residue = one _ (goes_prepared (instr.Set slot kind field from) is (suc at.point) refl _ _ prepared.held)
  by_instruction (branches condition other) is residue =
      let c = renamed (over_variables defs program at) condition in
      let on_false = goes at other at.state.slots (with_conjuncts defs program at (pure_of.Not c ∷ [])) in
      All-cons (IsPrepared program) _ (on_false ∷ []) (goes_prepared (instr.Branch condition other) is (suc at.point) (inl refl) _ _ prepared.held)
      (one on_false (goes_prepared (instr.Branch condition other) is other (inr refl) _ _ prepared.held))
  by_instruction (jumps target) is residue = one _ (record {
    written = prepared.written;
    path = Path.more at.point target prepared.written (instr.Jump target) prepared.path is refl;
    held = prepared.held;
  })
  by_instruction (calls to method args i there) is residue =
      let fits = instr_fits defs program at wf sound (instr.Call to method args) is in
      let callee = method_of program method in
      let r = call_renaming callee (pair_of callee i) (variables_in at.state.slots args) at.state.next in
      let ks = picked args callee.refs in
      let us = map r (last_vars callee) in
      one _ (goes_prepared (instr.Call to method args) is (suc at.point) refl _ _
      (result_holds callee.result (all_held at.state.slots ks us) (all_held-length at.state.slots ks us) (all_held-keeps at.state.slots ks us) to (r (result_var callee)) fits.3))
  by_instruction (returns from) is residue = All-nil (IsPrepared program)

pub premises_prepared : PremisesArePrepared
premises_prepared defs program sound at r wf prepared form residue =
    by_rule program at (λ r o. All (IsPrepared program) (premises_by defs program at o r residue))
    (λ o. subst (All (IsPrepared program)) (sym (or_premises defs program at o residue)) (opened_prepared defs program sound at wf prepared at.state.formula.cases))
    (λ i k match applies is held. by_instruction defs program sound at wf prepared match is residue) r form
