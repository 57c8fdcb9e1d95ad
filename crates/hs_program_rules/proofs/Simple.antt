-- The rules that ask no goal.
use Rattle.std.proofs.Common.{ℕ, suc, ℤ, pos, ◌≡◌, ◌<ℤ◌, inl, inr, List, [], ◌∷◌, ◌++◌, map, Some, None, refl, sym, ◌∙◌, ap, subst, arith}
use Rattle.hs_pure.specs.declared.lin.Lin.{Lin}
use Rattle.hs_pure.specs.declared.pure.Pure.{Pure}
use Rattle.hs_pure.specs.declared.pure.Pure.TheVariants as pure_of
use Rattle.hs_pure.specs.Stack.{Stack, Value, with_value, number_value}
use Rattle.hs_pure.specs.Truth.{value, TrueAt}
use Rattle.hs_pure.specs.Equated.{variable_sum}
use Rattle.hs_pure.specs.Rename.{renamed_lin, renamed}
use Rattle.hs_pure.proofs.Sums.{value-renamed}
use Rattle.hs_pure.proofs.Truths.{true-Eq, true-Not}
use Rattle.hs_heap.specs.declared.node.HeapNode.{HeapNode}
use Rattle.hs_heap.specs.declared.formula.Formula.{Formula}
use Rattle.hs_heap.specs.declared.formula.Atom.{Atom}
use Rattle.hs_heap.specs.declared.definitions.Defs.{Defs}
use Rattle.hs_heap.specs.Heap.{Heap, IsHeap, Parts, find_node, put_node}
use Rattle.hs_heap.specs.Meaning.{AtomsHold, FormulaHolds}
use Rattle.hs_heap.proofs.Least.{least, satisfies_from_least, least_from_satisfies}
use Rattle.hs_heap.proofs.Stacks.{with_value-same}
use Rattle.hs_heap.proofs.Splits.{swap_parts, all_left, IsHeap-left}
use Rattle.hs_heap.proofs.Places.{put_rises}
use Rattle.hs_heap.proofs.Atoms.{atoms_join}
use Rattle.hs_goal.specs.Classes.{IsSimple, the_case}
use Rattle.hs_rules.proofs.Plain.{PlainHolds, simple_is, plain_holds, plain_from, AllTrue-append}
use Rattle.hs_rules.proofs.Values.{value-variable_sum}
use Rattle.hs_core.specs.declared.instr.Instr.TheVariants as instr
use Rattle.hs_core.specs.declared.state.PRule.TheVariants as rule
use Rattle.hs_core.specs.declared.program.Program.{Program}
use Rattle.hs_core.specs.declared.state.At.{At}
use Rattle.hs_core.specs.Machine.{Slots, Frame, stack_at, updated, Effect, IsFree}
use Rattle.hs_core.specs.Sound.{InstrFits}
use Rattle.hs_program_rules.specs.States.{StateFits, method_at}
use Rattle.hs_program_rules.specs.Parts.{with_held, node_atom, goes, conjuncts}
use Rattle.hs_program_rules.specs.Table.{ReadsHeld, state_vars, new_var, over_variables, assigned, with_node, with_conjuncts, premises_by}
use Rattle.hs_program_rules.specs.Safe.{Fits, SlotsFit, frame_at}
use Rattle.hs_program_rules.proofs.Fitting.{AgreeBelow, agrees_itself, satisfied_below, agree_with_value, SlotsFit-agrees, SlotsFit-set}
use Rattle.hs_program_rules.proofs.Places.{node_added, node_apart, free_in_part}
use Rattle.hs_program_rules.proofs.Advance.{Advances, only_one, first_one, second_one}
use Rattle.hs_program_rules.proofs.Conditions.{value_over, condition_over}
use Rattle.hs_program_rules.proofs.Conjuncts.{conjuncts_true}
use Rattle.hs_program_rules.proofs.Standing.{held_low, slot_there, held_fields, field_values}

module _ (defs : Defs) (program : Program) (at : At) (wf : StateFits defs program at) (s : Stack) (slots : Slots) (h own rest : Heap)
    (is_heap : IsHeap h) (parts : Parts h own rest) (fits : Fits defs s at slots own) where
  -- the formula and the slots at a stack that agrees below next
  pub formula_at : (t : Stack) → AgreeBelow at.state.next s t → FormulaHolds (least defs) t own at.state.formula
  formula_at t agree = satisfied_below (least defs) defs at.state.next s t own at.state.formula agree wf.formula (least_from_satisfies defs s own at.state.formula fits.formula)

  pub slots_at : (t : Stack) → AgreeBelow at.state.next s t → SlotsFit at.state.slots t slots
  slots_at t agree = SlotsFit-agrees at.state.next at.state.slots s t slots agree (held_low defs program at wf) fits.slots_fit

  plain_at : IsSimple at.state.formula → (t : Stack) → AgreeBelow at.state.next s t → PlainHolds (least defs) t own (the_case at.state.formula).atoms (the_case at.state.formula).pure
  plain_at simple t agree =
      let F : Formula → Type 0 = λ f. FormulaHolds (least defs) t own f in
      plain_holds (least defs) t own (the_case at.state.formula).atoms (the_case at.state.formula).pure (subst F (simple_is at.state.formula simple) (formula_at t agree))

  pub assign_advances : (to : ℕ) (term : Lin) (residue : Formula) (ps : List At) (g : Frame) (k : Heap) → InstrFits defs program (method_at program at) at.point (instr.Assign to term) →
      IsSimple at.state.formula → ReadsHeld (method_at program at) at.state.slots (instr.Assign to term) → ps ≡ premises_by defs program at (Some (instr.Assign to term)) rule.Assign residue →
      Effect IsFree (instr.Assign to term) (frame_at at slots) h g k → Advances defs at ps s rest g k
  assign_advances to term residue ps g k (to_there, term_fits, on) simple held premises (moves, stays) =
      let n = at.state.next in
      let u = new_var at in
      let a = value (stack_at slots) term in
      let t : Stack = with_value u (number_value a) s in
      let agree : AgreeBelow n s t = agree_with_value n s u (number_value a) (omega arith) in
      let fit = slots_at t agree in
      let here : (t u).number ≡ a = ap (λ (y : Value). y.number) (with_value-same u (number_value a) s) in
      let now = plain_at simple t agree in
      let d = the_case at.state.formula in
      let over = over_variables defs program at in
      let right : value t (renamed_lin over term) ≡ a = value-renamed over t term ∙ value_over at.state.slots t slots term fit term_fits.ordered held in
      let equal : TrueAt t (assigned defs program at term) = (true-Eq t (variable_sum u) (renamed_lin over term)).1 (value-variable_sum t u ∙ here ∙ sym right) in
      let H : Heap → Type 0 = λ j. Parts j own rest in
      let f = with_conjuncts defs program at (assigned defs program at term ∷ []) in
      record {
        next = goes at (suc at.point) (with_held at.state.slots to u) f;
        of_pair = record { method = refl; pair = refl };
        among = only_one _ ps premises;
        stack = t;
        agrees = agree;
        own = own;
        parts = subst H (sym stays) parts;
        is_heap = subst IsHeap (sym stays) is_heap;
        slots = updated slots to a;
        fits = record {
          slots_fit = SlotsFit-set at.state.slots t slots to u a (slot_there defs program at wf to to_there) fit (sym here);
          formula = satisfies_from_least defs t own f (plain_from (least defs) t own d.atoms (d.pure ++ assigned defs program at term ∷ [])
              (AllTrue-append t d.pure (assigned defs program at term ∷ []) now.pure_true (equal, tt)) now.atoms_hold);
        };
        frame_is = moves;
      }

  pub new_advances : (to kind : ℕ) (args : List ℕ) (residue : Formula) (ps : List At) (g : Frame) (k : Heap) → InstrFits defs program (method_at program at) at.point (instr.New to kind args) →
      IsSimple at.state.formula → ReadsHeld (method_at program at) at.state.slots (instr.New to kind args) → ps ≡ premises_by defs program at (Some (instr.New to kind args)) rule.New residue →
      Effect IsFree (instr.New to kind args) (frame_at at slots) h g k → Advances defs at ps s rest g k
  new_advances to kind args residue ps g k (to_there, args_there, has, on) simple held premises (q, free, moves, heap_is) =
      let n = at.state.next in
      let u = new_var at in
      let t : Stack = with_value u (number_value q) s in
      let agree : AgreeBelow n s t = agree_with_value n s u (number_value q) (omega arith) in
      let fit = slots_at t agree in
      let here : (t u).number ≡ q = ap (λ (y : Value). y.number) (with_value-same u (number_value q) s) in
      let now = plain_at simple t agree in
      let d = the_case at.state.formula in
      let node : HeapNode = record { of = kind; values = map slots args } in
      let vars = state_vars at args in
      let atom : Atom = node_atom u kind vars in
      let values : field_values t vars ≡ map slots args = held_fields defs program at wf t slots args fit held in
      let new_own = put_node own q node in
      let free_own : find_node own q ≡ None = free_in_part q (swap_parts parts) is_heap free.free in
      let H : Heap → Type 0 = λ j. Parts j new_own rest in
      let single : Heap = (q, node) ∷ [] in
      let single_is : single ≡ ((t u).number, record { of = kind; values = field_values t vars }) ∷ [] = λ i. (sym here i, record { of = kind; values = sym values i }) ∷ [] in
      let Z : ℤ → Type 0 = λ z. pos 0 <ℤ z in
      let holds : AtomsHold (least defs) t single (atom ∷ []) = (single, [], all_left single, (single_is, subst Z (sym here) free.positive), refl) in
      let f = with_node defs program at kind args in
      record {
        next = goes at (suc at.point) (with_held at.state.slots to u) f;
        of_pair = record { method = refl; pair = refl };
        among = only_one _ ps premises;
        stack = t;
        agrees = agree;
        own = new_own;
        parts = subst H (sym heap_is) (node_added q node parts is_heap free.free);
        is_heap = subst IsHeap (sym heap_is) (put_rises (pos 0) q node h free.positive is_heap);
        slots = updated slots to q;
        fits = record {
          slots_fit = SlotsFit-set at.state.slots t slots to u q (slot_there defs program at wf to to_there) fit (sym here);
          formula = satisfies_from_least defs t new_own f (plain_from (least defs) t new_own (d.atoms ++ atom ∷ []) d.pure now.pure_true
              (atoms_join (least defs) t d.atoms (atom ∷ []) (swap_parts (node_apart q node own (IsHeap-left parts is_heap) free_own)) now.atoms_hold holds));
        };
        frame_is = moves;
      }

  pub branch_advances : (condition : Pure) (other : ℕ) (residue : Formula) (ps : List At) (g : Frame) (k : Heap) → InstrFits defs program (method_at program at) at.point (instr.Branch condition other) →
      IsSimple at.state.formula → ReadsHeld (method_at program at) at.state.slots (instr.Branch condition other) → ps ≡ premises_by defs program at (Some (instr.Branch condition other)) rule.Branch residue →
      Effect IsFree (instr.Branch condition other) (frame_at at slots) h g k → Advances defs at ps s rest g k
  branch_advances condition other residue ps g k (condition_fits, on, forward) simple held premises (way, stays) =
      let agree : AgreeBelow at.state.next s s = agrees_itself at.state.next s in
      let now = plain_at simple s agree in
      let d = the_case at.state.formula in
      let H : Heap → Type 0 = λ j. Parts j own rest in
      let c = renamed (over_variables defs program at) condition in
      let same = condition_over at.state.slots s slots (method_at program at).slots condition fits.slots_fit condition_fits held in
      elim way [
        | inl (holds, moves) ↦ record {
          next = goes at (suc at.point) at.state.slots (with_conjuncts defs program at (conjuncts c));
          of_pair = record { method = refl; pair = refl };
          among = first_one _ _ ps premises;
          stack = s;
          agrees = agree;
          own = own;
          parts = subst H (sym stays) parts;
          is_heap = subst IsHeap (sym stays) is_heap;
          slots = slots;
          fits = record {
            slots_fit = fits.slots_fit;
            formula = satisfies_from_least defs s own (with_conjuncts defs program at (conjuncts c)) (plain_from (least defs) s own d.atoms (d.pure ++ conjuncts c)
                (AllTrue-append s d.pure (conjuncts c) now.pure_true (conjuncts_true s c (same.1 holds))) now.atoms_hold);
          };
          frame_is = moves;
        }
        | inr (fails, moves) ↦ record {
          next = goes at other at.state.slots (with_conjuncts defs program at (pure_of.Not c ∷ []));
          of_pair = record { method = refl; pair = refl };
          among = second_one _ _ ps premises;
          stack = s;
          agrees = agree;
          own = own;
          parts = subst H (sym stays) parts;
          is_heap = subst IsHeap (sym stays) is_heap;
          slots = slots;
          fits = record {
            slots_fit = fits.slots_fit;
            formula = satisfies_from_least defs s own (with_conjuncts defs program at (pure_of.Not c ∷ [])) (plain_from (least defs) s own d.atoms (d.pure ++ pure_of.Not c ∷ [])
                (AllTrue-append s d.pure (pure_of.Not c ∷ []) now.pure_true ((true-Not s c).1 (λ e. fails (same.0 e)), tt)) now.atoms_hold);
          };
          frame_is = moves;
        }
      ]

  pub jump_advances : (target : ℕ) (residue : Formula) (ps : List At) (g : Frame) (k : Heap) → ps ≡ premises_by defs program at (Some (instr.Jump target)) rule.Jump residue →
      Effect IsFree (instr.Jump target) (frame_at at slots) h g k → Advances defs at ps s rest g k
  jump_advances target residue ps g k premises (moves, stays) =
      let H : Heap → Type 0 = λ j. Parts j own rest in
      record {
        next = record at { point = target };
        of_pair = record { method = refl; pair = refl };
        among = only_one _ ps premises;
        stack = s;
        agrees = agrees_itself at.state.next s;
        own = own;
        parts = subst H (sym stays) parts;
        is_heap = subst IsHeap (sym stays) is_heap;
        slots = slots;
        fits = record { slots_fit = fits.slots_fit; formula = fits.formula };
        frame_is = moves;
      }
