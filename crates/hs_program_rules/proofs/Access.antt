-- The rules of reading and writing a field.
use Rattle.std.proofs.Common.{ℕ, zero, suc, ℤ, pos, ◌<ℤ◌, ◌≡◌, ◌+◌, ◌-◌, ◌<◌, ◌≤◌, max, ◌⊎◌, inl, inr, true, List, [], ◌∷◌, length, map, slice_set, Some, refl, sym, ◌∙◌, ap, subst, arith}
use Rattle.std.specs.List.{All}
use Rattle.std.proofs.lemmas.Bool.{or_cases}
use Rattle.std.proofs.lemmas.List.Elements.{All-head, All-tail}
use Rattle.hs_pure.specs.declared.var.Var.{Var}
use Rattle.hs_pure.specs.Stack.{Stack, same}
use Rattle.hs_pure.proofs.Vars.{or_left, or_right}
use Rattle.hs_heap.specs.declared.node.HeapNode.{HeapNode}
use Rattle.hs_heap.specs.declared.formula.Atom.{Atom}
use Rattle.hs_heap.specs.declared.formula.Disjunct.{Disjunct}
use Rattle.hs_heap.specs.declared.formula.Formula.{Formula}
use Rattle.hs_heap.specs.declared.definitions.Defs.{Defs}
use Rattle.hs_heap.specs.Heap.{Heap, IsHeap, Parts, find_node}
use Rattle.hs_heap.specs.Meaning.{Meaning, argument_at, field_value, is_in, AtomHolds, SomeHolds, FormulaHolds}
use Rattle.hs_heap.specs.Variables.{in_atom}
use Rattle.hs_heap.proofs.Least.{least, satisfies_from_least, least_from_satisfies}
use Rattle.hs_heap.proofs.Stacks.{same_true}
use Rattle.hs_heap.proofs.Splits.{swap_parts, all_right, only_right, regroup, IsHeap-left}
use Rattle.hs_heap.proofs.Places.{put_rises}
use Rattle.hs_heap.proofs.Atoms.{regroup_right}
use Rattle.hs_heap.proofs.Lists.{listed_forth}
use Rattle.hs_heap.proofs.Free.{atom_agrees}
use Rattle.hs_rules.proofs.Holds.{holds_into}
use Rattle.hs_rules.proofs.Plain.{plain_holds, Agree-below}
use Rattle.hs_core.specs.declared.instr.Instr.TheVariants as instr
use Rattle.hs_core.specs.declared.state.PRule.TheVariants as rule
use Rattle.hs_core.specs.declared.program.Program.{Program}
use Rattle.hs_core.specs.declared.state.At.{At}
use Rattle.hs_core.specs.Machine.{Slots, Frame, HasNode, numbered, updated, Effect, IsFree}
use Rattle.hs_core.specs.Sound.{IsUpTo, InstrFits, HasField, field_count}
use Rattle.hs_core.proofs.GivenVars.{in_from}
use Rattle.hs_program_rules.specs.States.{StateFits, IsHeld, variable_in, number_var, method_at}
use Rattle.hs_program_rules.specs.Parts.{with_held, node_atom, with_atom, beside, goes, count_or_none}
use Rattle.hs_program_rules.specs.Table.{ReadsHeld, node_goal, fields_of, premises_by}
use Rattle.hs_program_rules.specs.Laws.{Entailed}
use Rattle.hs_program_rules.specs.Safe.{Fits, frame_at}
use Rattle.hs_program_rules.proofs.Fitting.{AgreeBelow, held_value, SlotsFit-set}
use Rattle.hs_program_rules.proofs.Places.{node_found, node_written}
use Rattle.hs_program_rules.proofs.Advance.{Advances, only_one}
use Rattle.hs_program_rules.proofs.Simple.{slots_at}
use Rattle.hs_program_rules.proofs.Standing.{field_values, field_number, numbered_value, from_length, from_out, from_numbers, held_low, held_number, slot_there}

-- ---- a variable in the place of a field's

values_set : (t : Stack) (vs : List Var) (i : ℕ) (w : Var) → field_values t (slice_set vs i w) ≡ slice_set (field_values t vs) i (field_value (argument_at t w))
values_set t [] i w = refl
values_set t (v ∷ vs) zero w = refl
values_set t (v ∷ vs) (suc i) w = ap (λ r. field_value (argument_at t v) ∷ r) (values_set t vs i w)

in_set : (vs : List Var) (i : ℕ) (w v : Var) → is_in v (slice_set vs i w) ≡ true → (is_in v vs ≡ true) ⊎ (v ≡ w)
in_set [] i w v e = absurd cc
in_set (u ∷ vs) zero w v e = elim (or_cases (same v w) (is_in v vs) e) [
  | inl is ↦ inr (same_true v w is)
  | inr is ↦ inl (or_right (same v u) (is_in v vs) is)
]
in_set (u ∷ vs) (suc i) w v e = elim (or_cases (same v u) (is_in v (slice_set vs i w)) e) [
  | inl is ↦ inl (or_left (same v u) (is_in v vs) is)
  | inr is ↦ elim (in_set vs i w v is) [
    | inl among ↦ inl (or_right (same v u) (is_in v vs) among)
    | inr new ↦ inr new
  ]
]

-- ---- an atom beside each case, whose bound variables are above it

abbrev pub BindsFrom : ℕ → Disjunct → Type 0
BindsFrom n d = All (λ (v : Var). n ≤ v.number) d.bound

pub beside_holds : (x : Meaning) (n : ℕ) (a : Atom) (t : Stack) {h ha hb : Heap} (ds : List Disjunct) → All (BindsFrom n) ds → ((v : Var) → in_atom v a ≡ true → v.number < n) →
    Parts h ha hb → AtomHolds x t ha a → SomeHolds x t hb ds → SomeHolds x t h (map (with_atom a) ds)
beside_holds x n a t [] bounds low parts one p = absurd p
beside_holds x n a t {ha = ha} {hb = hb} (d ∷ ds) bounds low parts one (inl p) = inl (record {
  at = p.at;
  same = p.same;
  pure = p.pure;
  atoms = (
    ha,
    hb,
    parts,
    atom_agrees x a t p.at ha
        (Agree-below n d.bound (λ v. in_atom v a) (listed_forth (λ (v : Var). n ≤ v.number) d.bound (All-head (BindsFrom n) d ds bounds)) low p.same) one,
    p.atoms,
  );
})
beside_holds x n a t (d ∷ ds) bounds low parts one (inr p) = inr (beside_holds x n a t ds (All-tail (BindsFrom n) d ds bounds) low parts one p)

some_node : (n k : HeapNode) → Some n ≡ Some k → n ≡ k
some_node n k e = cc

not_less : (a b : ℕ) → a ≤ max a b
not_less a b = omega arith

module _ (defs : Defs) (program : Program) (at : At) (wf : StateFits defs program at) (s : Stack) (slots : Slots) (h own rest : Heap)
    (is_heap : IsHeap h) (parts : Parts h own rest) (fits : Fits defs s at slots own) where
  abbrev fields : ℕ → List Var
  fields kind = fields_of defs program at kind

  abbrev root : ℕ → Var
  root slot = variable_in at.state.slots slot

  abbrev node_of : Stack → ℕ → HeapNode
  node_of t kind = record { of = kind; values = field_values t (fields kind) }

  -- the node that a state was asked for, and a rest that meets the residue
  pub record NodeThere (slot kind : ℕ) (residue : Formula) : Type 0 where
    pub stack : Stack
    pub agrees : AgreeBelow at.state.next s stack
    pub others : Heap
    pub node_parts : Parts own ((slots slot, node_of stack kind) ∷ []) others
    pub positive : pos 0 <ℤ slots slot
    pub root_is : (stack (root slot)).number ≡ slots slot
    pub residue_holds : FormulaHolds (least defs) stack others residue

  pub node_there : (slot kind : ℕ) (residue : Formula) → IsHeld at.state.slots slot → Entailed defs (node_goal defs at slot kind) residue → NodeThere slot kind residue
  node_there slot kind residue held entailed =
      let goal = node_goal defs at slot kind in
      let vs = fields kind in
      let out = (holds_into defs (length own) goal residue (entailed.holds (length own))).splits s own [] own (IsHeap-left parts is_heap) (omega arith) (all_right own) refl
      (least_from_satisfies defs s own at.state.formula fits.formula) in
      let t = out.at in
      let agree : AgreeBelow at.state.next s t = λ v less. sym (out.same.same v (from_out at.state.next (count_or_none (field_count defs kind)) v less)) in
      let fit = slots_at defs program at wf s slots h own rest is_heap parts fits t agree in
      let root_is = held_value at.state.slots t slots slot fit held in
      let holds = (plain_holds (least defs) t out.part (node_atom (root slot) kind vs ∷ []) [] out.right_holds).atoms_hold in
      let (a, b, inner, (a_is, positive), b_is) = holds in
      let B : Heap → Type 0 = λ j. Parts out.part a j in
      let whole : out.part ≡ a = only_right (swap_parts (subst B b_is inner)) in
      let P : Heap → Type 0 = λ j. Parts own j out.rest in
      let R : ℤ → Type 0 = λ q. Parts own ((q, node_of t kind) ∷ []) out.rest in
      let Z : ℤ → Type 0 = λ q. pos 0 <ℤ q in
      record {
        stack = t;
        agrees = agree;
        others = out.rest;
        node_parts = subst R root_is (subst P (whole ∙ a_is) out.parts);
        positive = subst Z root_is positive;
        root_is = root_is;
        residue_holds = out.residue_holds;
      }

  node_in_heap : (slot kind : ℕ) (residue : Formula) (there : NodeThere slot kind residue) → find_node h (slots slot) ≡ Some (node_of there.stack kind)
  node_in_heap slot kind residue there =
      let (bd, l, r) = regroup_right parts there.node_parts in
      node_found (slots slot) (node_of there.stack kind) r is_heap

  pub asked_node : (slot kind : ℕ) (residue : Formula) → IsHeld at.state.slots slot → Entailed defs (node_goal defs at slot kind) residue → HasNode h (slots slot) kind
  asked_node slot kind residue held entailed =
      let there = node_there slot kind residue held entailed in
      record { node = node_of there.stack kind; found = node_in_heap slot kind residue there; kind_is = refl }

  field_there : (kind field : ℕ) → HasField defs kind field → IsUpTo (length (fields kind)) field
  field_there kind field (n, is, (low, high)) =
      let size = from_length at.state.next (count_or_none (field_count defs kind)) in
      let e : count_or_none (field_count defs kind) ≡ n = ap count_or_none is in
      (low, omega arith)

  -- variables of the node are below the goal's next
  root_low : (slot kind : ℕ) → IsHeld at.state.slots slot → (v : Var) → v ≡ root slot → v.number < (node_goal defs at slot kind).next
  root_low slot kind held v is =
      let low = held_low defs program at wf slot (root slot) held in
      let e : v.number ≡ (root slot).number = ap (λ (w : Var). w.number) is in
      let g : at.state.next + length (fields kind) ≤ (node_goal defs at slot kind).next = not_less (at.state.next + length (fields kind)) _ in
      omega arith

  fields_low : (slot kind : ℕ) (v : Var) → is_in v (fields kind) ≡ true → v.number < (node_goal defs at slot kind).next
  fields_low slot kind v e =
      let count = count_or_none (field_count defs kind) in
      let high = (in_from v at.state.next count e).2 in
      let size = from_length at.state.next count in
      let g : at.state.next + length (fields kind) ≤ (node_goal defs at slot kind).next = not_less (at.state.next + length (fields kind)) _ in
      omega arith

  atom_at_place : (t : Stack) (slot kind : ℕ) (vs : List Var) (values : List ℤ) → (t (root slot)).number ≡ slots slot → pos 0 <ℤ slots slot → values ≡ field_values t vs →
      AtomHolds (least defs) t ((slots slot, record { of = kind; values = values }) ∷ []) (node_atom (root slot) kind vs)
  atom_at_place t slot kind vs values root_is positive values_are =
      let Z : ℤ → Type 0 = λ q. pos 0 <ℤ q in
      (λ i. (sym root_is i, record { of = kind; values = values_are i }) ∷ [], subst Z (sym root_is) positive)

  pub get_advances : (to slot kind field : ℕ) (residue : Formula) (ps : List At) (g : Frame) (k : Heap) → InstrFits defs program (method_at program at) at.point (instr.Get to slot kind field) →
      ReadsHeld (method_at program at) at.state.slots (instr.Get to slot kind field) → Entailed defs (node_goal defs at slot kind) residue → ps ≡ premises_by defs program at (Some (instr.Get to slot kind field)) rule.Get residue →
      Effect IsFree (instr.Get to slot kind field) (frame_at at slots) h g k → Advances defs at ps s rest g k
  get_advances to slot kind field residue ps g k (to_there, at_there, has_field, on) reads entailed premises (has, moves, stays) =
      let held = All-head (IsHeld at.state.slots) slot [] reads in
      let vs = fields kind in
      let there = node_there slot kind residue held entailed in
      let t = there.stack in
      let atom = node_atom (root slot) kind vs in
      let node = node_of t kind in
      let same_node : has.node ≡ node = some_node has.node node (sym has.found ∙ node_in_heap slot kind residue there) in
      let fit = slots_at defs program at wf s slots h own rest is_heap parts fits t there.agrees in
      let read = numbered vs field (number_var 0) in
      let a = numbered has.node.values field (pos 0) in
      let value : a ≡ (t read).number =
      ap (λ (n : HeapNode). numbered n.values field (pos 0)) same_node
      ∙ numbered_value t vs field (field_there kind field has_field) (from_numbers at.state.next (count_or_none (field_count defs kind))) in
      let low : (v : Var) → in_atom v atom ≡ true → v.number < (node_goal defs at slot kind).next = λ v e. elim (or_cases (same v (root slot)) (is_in v vs) e) [
        | inl is ↦ root_low slot kind held v (same_true v (root slot) is)
        | inr is ↦ fields_low slot kind v is
      ] in
      let H : Heap → Type 0 = λ j. Parts j own rest in
      let holds = atom_at_place t slot kind vs (field_values t vs) there.root_is there.positive refl in
      record {
        next = goes at (suc at.point) (with_held at.state.slots to read) (beside atom residue);
        of_pair = record { method = refl; pair = refl };
        among = only_one _ ps premises;
        stack = t;
        agrees = there.agrees;
        own = own;
        parts = subst H (sym stays) parts;
        is_heap = subst IsHeap (sym stays) is_heap;
        slots = updated slots to a;
        fits = record {
          slots_fit = SlotsFit-set at.state.slots t slots to read a (slot_there defs program at wf to to_there) fit value;
          formula = satisfies_from_least defs t own (beside atom residue)
              (beside_holds (least defs) (node_goal defs at slot kind).next atom t residue.cases entailed.fresh.bound low there.node_parts holds there.residue_holds);
        };
        frame_is = moves;
      }

  pub set_advances : (slot kind field from : ℕ) (residue : Formula) (ps : List At) (g : Frame) (k : Heap) → ReadsHeld (method_at program at) at.state.slots (instr.Set slot kind field from) →
      Entailed defs (node_goal defs at slot kind) residue → ps ≡ premises_by defs program at (Some (instr.Set slot kind field from)) rule.Set residue →
      Effect IsFree (instr.Set slot kind field from) (frame_at at slots) h g k → Advances defs at ps s rest g k
  set_advances slot kind field from residue ps g k reads entailed premises (has, moves, heap_is) =
      let held = All-head (IsHeld at.state.slots) slot (from ∷ []) reads in
      let from_held = All-head (IsHeld at.state.slots) from [] (All-tail (IsHeld at.state.slots) slot (from ∷ []) reads) in
      let vs = fields kind in
      let there = node_there slot kind residue held entailed in
      let t = there.stack in
      let source = variable_in at.state.slots from in
      let changed = slice_set vs (field - 1) source in
      let atom = node_atom (root slot) kind changed in
      let node = node_of t kind in
      let same_node : has.node ≡ node = some_node has.node node (sym has.found ∙ node_in_heap slot kind residue there) in
      let fit = slots_at defs program at wf s slots h own rest is_heap parts fits t there.agrees in
      let source_is : field_value (argument_at t source) ≡ slots from = field_number t source (held_number defs program at wf from source from_held) ∙ held_value at.state.slots t slots from fit from_held in
      let written : HeapNode = record { of = kind; values = slice_set has.node.values (field - 1) (slots from) } in
      let values : slice_set has.node.values (field - 1) (slots from) ≡ field_values t changed =
      ap (λ (n : HeapNode). slice_set n.values (field - 1) (slots from)) same_node ∙ (ap (λ q. slice_set (field_values t vs) (field - 1) q) (sym source_is) ∙ sym (values_set t vs (field - 1) source)) in
      let low : (v : Var) → in_atom v atom ≡ true → v.number < (node_goal defs at slot kind).next = λ v e. elim (or_cases (same v (root slot)) (is_in v changed) e) [
        | inl is ↦ root_low slot kind held v (same_true v (root slot) is)
        | inr is ↦ elim (in_set vs (field - 1) source v is) [
          | inl among ↦ fields_low slot kind v among
          | inr new ↦
              let below = held_low defs program at wf from source from_held in
              let e : v.number ≡ source.number = ap (λ (w : Var). w.number) new in
              let g : at.state.next + length (fields kind) ≤ (node_goal defs at slot kind).next = not_less (at.state.next + length (fields kind)) _ in
              omega arith
        ]
      ] in
      let (bd, l, r) = regroup_right parts there.node_parts in
      let (new_own, inner, outer) = regroup (node_written (slots slot) node written r is_heap) l in
      let H : Heap → Type 0 = λ j. Parts j new_own rest in
      let holds = atom_at_place t slot kind changed written.values there.root_is there.positive values in
      record {
        next = goes at (suc at.point) at.state.slots (beside atom residue);
        of_pair = record { method = refl; pair = refl };
        among = only_one _ ps premises;
        stack = t;
        agrees = there.agrees;
        own = new_own;
        parts = subst H (sym heap_is) outer;
        is_heap = subst IsHeap (sym heap_is) (put_rises (pos 0) (slots slot) written h there.positive is_heap);
        slots = slots;
        fits = record {
          slots_fit = fit;
          formula = satisfies_from_least defs t new_own (beside atom residue)
              (beside_holds (least defs) (node_goal defs at slot kind).next atom t residue.cases entailed.fresh.bound low inner holds there.residue_holds);
        };
        frame_is = moves;
      }
