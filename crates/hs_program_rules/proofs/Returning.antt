-- The rule of a return.
use Rattle.std.proofs.Common.{ℕ, suc, ℤ, ◌≡◌, inl, inr, true, false, List, [], ◌∷◌, length, map, Option, Some, None, refl, sym, ◌∙◌, ap, subst, arith}
use Rattle.std.specs.List.{All}
use Rattle.std.proofs.lemmas.List.Elements.{All-nil, All-cons, All-head, All-tail, All-weaker}
use Rattle.hs_pure.specs.declared.var.Var.{Var}
use Rattle.hs_pure.specs.Stack.{Stack, Value, same, number_value}
use Rattle.hs_pure.specs.Sums.{KeepsKinds}
use Rattle.hs_heap.specs.declared.formula.Atom.{Atom}
use Rattle.hs_heap.specs.declared.formula.Disjunct.{Disjunct}
use Rattle.hs_heap.specs.declared.formula.Formula.{Formula}
use Rattle.hs_heap.specs.declared.definitions.Defs.{Defs}
use Rattle.hs_heap.specs.Heap.{Heap, IsHeap, Parts}
use Rattle.hs_heap.specs.Meaning.{Number, argument_at, is_in, Satisfies}
use Rattle.hs_heap.specs.WellFormed.{IsProper}
use Rattle.hs_heap.specs.Sound.{AtomFits, PureFits, DisjunctFits, FormulaFits, kinds}
use Rattle.hs_heap.specs.Renamed.{DisjunctKeepsApart}
use Rattle.hs_heap.specs.Instance.{put_arguments}
use Rattle.hs_heap.specs.Laws.{HasKinds}
use Rattle.hs_heap.proofs.Booleans.{bool_cases, clash}
use Rattle.hs_heap.proofs.Stacks.{same_true, with_value-other}
use Rattle.hs_heap.proofs.Splits.{all_right, IsHeap-left}
use Rattle.hs_heap.proofs.Least.{least, satisfies_from_least, least_from_satisfies}
use Rattle.hs_heap.proofs.Lists.{listed_forth}
use Rattle.hs_heap.proofs.Renaming.{before, cases_renamed}
use Rattle.hs_heap.proofs.Bodies.{put-out, put-in, put-kind}
use Rattle.hs_heap.proofs.Satisfied.{satisfaction_is_of_kinds}
use Rattle.hs_rules.proofs.Holds.{holds_into}
use Rattle.hs_rules.proofs.Proper.{well_formed_proper}
use Rattle.hs_core.specs.declared.program.Pair.{Pair}
use Rattle.hs_core.specs.declared.program.Method.{Method}
use Rattle.hs_core.specs.declared.program.Program.{Program}
use Rattle.hs_core.specs.declared.state.At.{At}
use Rattle.hs_core.specs.declared.instr.Instr.TheVariants as instr
use Rattle.hs_core.specs.Machine.{Slots, returned, returned_value}
use Rattle.hs_core.specs.Set.{reads}
use Rattle.hs_core.specs.Sound.{PairFits, reserved_vars}
use Rattle.hs_core.proofs.GivenVars.{from_in}
use Rattle.hs_program_rules.specs.States.{Held, held_in, variable_in, IsHeld, IsOwn, StateFits, method_at, pair_at}
use Rattle.hs_program_rules.specs.Parts.{variables_in, result_var, last_vars, return_renaming}
use Rattle.hs_program_rules.specs.Table.{return_goal}
use Rattle.hs_program_rules.specs.Laws.{Entailed}
use Rattle.hs_program_rules.specs.Safe.{Fits, SlotsFit, frame_at, with_numbers, stack_after, EndsWell}
use Rattle.hs_program_rules.proofs.Fitting.{number_at, held_value, held_values}
use Rattle.hs_program_rules.proofs.Pairs.{names, bound_no_name, bound_low}
use Rattle.hs_program_rules.proofs.Standing.{AreNumbers, map_length, from_length, from_numbers, number_kinds}

-- ---- stacks that agree on the parts of the variables' own kinds

has_kinds : (defs : Defs) (vs : List Var) (next : ℕ) (d : Disjunct) → DisjunctFits defs vs next d → HasKinds d
has_kinds defs vs next d f = record {
  roots = All-weaker (AtomFits defs) (λ (a : Atom). a.root.bag ≡ false) (λ a g. g.0) d.atoms f.atoms;
  pure = All-weaker (PureFits vs next) IsProper (λ p g. well_formed_proper p g.formed) d.pure f.pure;
}

pub satisfied_of_kinds : (defs : Defs) (vs : List Var) (next : ℕ) (f : Formula) (s t : Stack) (h : Heap) → FormulaFits defs vs next f → ((v : Var) → argument_at s v ≡ argument_at t v) →
    Satisfies defs s h f → Satisfies defs t h f
satisfied_of_kinds defs vs next f s t h fits agree p =
    (p.0, (satisfaction_is_of_kinds defs p.0 f s t h (All-weaker (DisjunctFits defs vs next) HasKinds (has_kinds defs vs next) f.cases fits) (λ v e. agree v)).0 p.1)

number_argument : (s : Stack) (v : Var) → v.bag ≡ false → argument_at s v ≡ Number (s v).number
number_argument s v e = rw e refl

put_same : (w : Var) (ws : List Var) (u : Var) (us : List Var) (e : Var → Var) (v : Var) → same w v ≡ true → put_arguments (w ∷ ws) (u ∷ us) e v ≡ u
put_same w ws u us e v is = rw is refl

put_other : (w : Var) (ws : List Var) (u : Var) (us : List Var) (e : Var → Var) (v : Var) → same w v ≡ false → put_arguments (w ∷ ws) (u ∷ us) e v ≡ put_arguments ws us e v
put_other w ws u us e v isnt = rw isnt refl

numbers_same : (w : Var) (ws : List Var) (n : ℤ) (ns : List ℤ) (f : Stack) (v : Var) → same w v ≡ true → n ≡ (with_numbers (w ∷ ws) (n ∷ ns) f v).number
numbers_same w ws n ns f v is = rw is refl

-- variables in the place of number variables have the values that these are given
put_numbers : (ws us : List Var) (ns : List ℤ) (e : Var → Var) (t f : Stack) (v : Var) → AreNumbers ws → map (number_at t) us ≡ ns → argument_at (before e t) v ≡ argument_at f v →
    argument_at (before (put_arguments ws us e) t) v ≡ argument_at (with_numbers ws ns f) v
put_numbers [] us ns e t f v numbers values base = base
put_numbers (w ∷ ws) [] [] e t f v numbers values base = base
put_numbers (w ∷ ws) [] (n ∷ ns) e t f v numbers values base = absurd (cc)
put_numbers (w ∷ ws) (u ∷ us) [] e t f v numbers values base = absurd (cc)
put_numbers (w ∷ ws) (u ∷ us) (n ∷ ns) e t f v numbers values base = elim (bool_cases (same w v)) [
  | inl is ↦
      let kind : v.bag ≡ false = sym (ap (λ (x : Var). x.bag) (same_true w v is)) ∙ All-head (λ (x : Var). x.bag ≡ false) w ws numbers in
      let first : (t u).number ≡ n = cc in
      let value : (before (put_arguments (w ∷ ws) (u ∷ us) e) t v).number ≡ (with_numbers (w ∷ ws) (n ∷ ns) f v).number =
      ap (λ x. (t x).number) (put_same w ws u us e v is) ∙ first ∙ numbers_same w ws n ns f v is in
      number_argument (before (put_arguments (w ∷ ws) (u ∷ us) e) t) v kind ∙ ap Number value ∙ sym (number_argument (with_numbers (w ∷ ws) (n ∷ ns) f) v kind)
  | inr isnt ↦
      let rest : map (number_at t) us ≡ ns = cc in
      ap (λ x. argument_at (λ z. t x) v) (put_other w ws u us e v isnt) ∙ put_numbers ws us ns e t f v (All-tail (λ (x : Var). x.bag ≡ false) w ws numbers) rest base
      ∙ ap (λ y. argument_at (λ z. y) v) (sym (with_value-other w (number_value n) (with_numbers ws ns f) v isnt))
]

module _ (defs : Defs) (program : Program) (at : At) (wf : StateFits defs program at) where
  abbrev m : Method
  m = method_at program at

  abbrev p : Pair
  p = pair_at program at

  abbrev held : Held
  held = at.state.slots

  -- the variables that become others, and these
  abbrev given : Option ℕ → List Var
  given None = last_vars m
  given (Some k) = result_var m ∷ last_vars m

  abbrev taken : Option ℕ → List Var
  taken None = variables_in held m.refs
  taken (Some k) = variable_in held k ∷ variables_in held m.refs

  abbrev IsTaken : Option ℕ → Type 0
  IsTaken from = All (IsHeld held) (reads (instr.Return from))

  renaming_is : (from : Option ℕ) (v : Var) → return_renaming m from held v ≡ put_arguments (given from) (taken from) (λ w. w) v
  renaming_is None v = refl
  renaming_is (Some k) v = refl

  given_numbers : (from : Option ℕ) → AreNumbers (given from)
  given_numbers None = from_numbers (suc (suc m.params)) (length m.refs)
  given_numbers (Some k) = All-cons (λ (x : Var). x.bag ≡ false) (result_var m) (last_vars m) refl (from_numbers (suc (suc m.params)) (length m.refs))

  taken_all : (P : Var → Type 0) → ((k : ℕ) (v : Var) → held_in held k ≡ Some v → P v) → (ks : List ℕ) → All (IsHeld held) ks → All P (variables_in held ks)
  taken_all P each [] all = All-nil P
  taken_all P each (k ∷ ks) all =
      All-cons P (variable_in held k) (variables_in held ks) (each k (variable_in held k) (All-head (IsHeld held) k ks all)) (taken_all P each ks (All-tail (IsHeld held) k ks all))

  taken_each : (P : Var → Type 0) → ((k : ℕ) (v : Var) → held_in held k ≡ Some v → P v) → (from : Option ℕ) → IsTaken from → All (IsHeld held) m.refs → All P (taken from)
  taken_each P each None reads last = taken_all P each m.refs last
  taken_each P each (Some k) reads last = All-cons P (variable_in held k) (variables_in held m.refs) (each k (variable_in held k) (All-head (IsHeld held) k [] reads)) (taken_all P each m.refs last)

  sizes : (from : Option ℕ) → length (given from) ≡ length (taken from)
  sizes None = from_length (suc (suc m.params)) (length m.refs) ∙ sym (map_length (variable_in held) m.refs)
  sizes (Some k) = let e = from_length (suc (suc m.params)) (length m.refs) in let f = map_length (variable_in held) m.refs in omega arith

  given_out : (from : Option ℕ) (v : Var) → is_in v (reserved_vars m) ≡ false → is_in v (given from) ≡ false
  given_out None v e = grind arith
  given_out (Some k) v e = e

  -- the values of a return
  returned_values : (from : Option ℕ) (slots : Slots) (t f : Stack) (v : Var) → SlotsFit held t slots → IsTaken from → All (IsHeld held) m.refs → t v ≡ f v →
      argument_at (before (return_renaming m from held) t) v ≡ argument_at (stack_after m (record { result = returned_value from slots; refs = map slots m.refs }) f) v
  returned_values None slots t f v fit reads last e =
      put_numbers (last_vars m) (variables_in held m.refs) (map slots m.refs) (λ w. w) t f v (given_numbers None) (held_values held t slots m.refs fit last) (argument_of v (t v) (f v) e)
    where
      argument_of : (v : Var) (x y : Value) → x ≡ y → argument_at (λ w. x) v ≡ argument_at (λ w. y) v
      argument_of v x y e = ap (λ z. argument_at (λ w. z) v) e
  returned_values (Some k) slots t f v fit reads last e =
      let first = held_value held t slots k fit (All-head (IsHeld held) k [] reads) in
      let rest = held_values held t slots m.refs fit last in
      put_numbers (result_var m ∷ last_vars m) (taken (Some k)) (slots k ∷ map slots m.refs) (λ w. w) t f v (given_numbers (Some k)) (λ i. first i ∷ rest i) (argument_of v (t v) (f v) e)
    where
      argument_of : (v : Var) (x y : Value) → x ≡ y → argument_at (λ w. x) v ≡ argument_at (λ w. y) v
      argument_of v x y e = ap (λ z. argument_at (λ w. z) v) e

  module _ (pair : PairFits defs m p) (from : Option ℕ) (reads : IsTaken from) (last : All (IsHeld held) m.refs) where
    abbrev r : Var → Var
    r = return_renaming m from held

    same_kinds : kinds (given from) ≡ kinds (taken from)
    same_kinds = number_kinds (given from) (taken from) (given_numbers from)
        (taken_each (λ (x : Var). x.bag ≡ false) (λ k v e. own_kind v (wf.held k v e).0) from reads last) (sizes from)
      where
        own_kind : (v : Var) → IsOwn m p v → v.bag ≡ false
        own_kind v (inl is) = is.0
        own_kind v (inr is) = is.0

    keeps : KeepsKinds r
    keeps v = ap (λ (x : Var). x.bag) (renaming_is from v) ∙ put-kind (given from) (taken from) (λ w. w) v same_kinds refl

    -- what the postcondition binds stays apart
    apart : (d : Disjunct) → DisjunctFits defs (names defs m p pair) p.next d → DisjunctKeepsApart r d
    apart d f u v b o e =
        let none = bound_no_name defs m p pair d f u b in
        let low = bound_low defs m p pair d f u b in
        let stays : r u ≡ u = renaming_is from u ∙ put-out (given from) (taken from) (λ w. w) u (given_out from u none.unreserved) in
        elim (bool_cases (is_in v (given from))) [
          | inl is ↦
              let own = listed_forth (IsOwn m p) (taken from) (taken_each (IsOwn m p) (λ k w e. (wf.held k w e).0) from reads last)
              (put_arguments (given from) (taken from) (λ w. w) v) (put-in (given from) (taken from) (λ w. w) v same_kinds is) in
              elim (subst (IsOwn m p) (sym (renaming_is from v) ∙ sym e ∙ stays) own) [
                | inl slot ↦ let (kind, (one, up)) = slot in clash (from_in u 1 m.params kind one (omega arith)) none.no_param
                | inr new ↦ let high = new.1 in absurd (omega arith)
              ]
          | inr isnt ↦ sym stays ∙ e ∙ (renaming_is from v ∙ put-out (given from) (taken from) (λ w. w) v isnt)
        ]

    module _ (s : Stack) (slots : Slots) (h own rest : Heap) (is_heap : IsHeap h) (parts : Parts h own rest) (fits : Fits defs s at slots own) where
      pub return_ends_well : (residue : Formula) → Entailed defs (return_goal program at from) residue → EndsWell defs m p s rest (returned program (frame_at at slots) from) h
      return_ends_well residue entailed =
          let value = returned program (frame_at at slots) from in
          let out = (holds_into defs (length own) (return_goal program at from) residue (entailed.holds (length own))).splits s own [] own (IsHeap-left parts is_heap) (omega arith) (all_right own) refl
          (least_from_satisfies defs s own at.state.formula fits.formula) in
          let t = out.at in
          let fit : SlotsFit held t slots = λ k v e. fits.slots_fit k v e ∙ ap (λ (y : Value). y.number) (sym (out.same.same v refl)) in
          let post = cases_renamed r keeps (least defs) t (before r t) out.part p.post.cases (λ v e. refl)
          (All-weaker (DisjunctFits defs (names defs m p pair) p.next) (DisjunctKeepsApart r) apart p.post.cases pair.post) out.right_holds in
          record {
            own = own;
            parts = parts;
            part = out.part;
            other = out.rest;
            inner = out.parts;
            post = satisfied_of_kinds defs (names defs m p pair) p.next p.post (before r t) (stack_after m value s) out.part pair.post
                (λ v. returned_values from slots t s v fit reads last (out.same.same v refl)) (satisfies_from_least defs (before r t) out.part p.post post);
            is_heap = is_heap;
            arity = map_length slots m.refs;
          }
