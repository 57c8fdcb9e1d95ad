-- What a return asks: the own postcondition over what slots hold is shaped.
use Rattle.std.proofs.Common.{ℕ, suc, ◌≡◌, inl, inr, false, List, ◌∷◌, ◌++◌, length, slice_index_or, Option, Some, None, refl, sym, ◌∙◌, ap, subst, arith}
use Rattle.std.specs.List.{All}
use Rattle.std.proofs.lemmas.List.Elements.{All-cons, All-map, All-weaker}
use Rattle.hs_pure.specs.declared.var.Var.{Var}
use Rattle.hs_pure.specs.Sums.{KeepsKinds}
use Rattle.hs_heap.specs.declared.formula.Disjunct.{Disjunct}
use Rattle.hs_heap.specs.declared.definitions.Defs.{Defs}
use Rattle.hs_heap.specs.Meaning.{is_in}
use Rattle.hs_heap.specs.Sound.{DisjunctFits, kinds}
use Rattle.hs_heap.specs.Renamed.{renamed_formula, DisjunctKeepsApart}
use Rattle.hs_heap.specs.Instance.{put_arguments}
use Rattle.hs_heap.proofs.Booleans.{bool_cases, or_false_right, clash}
use Rattle.hs_heap.proofs.Bodies.{put-out, put-in, put-kind}
use Rattle.hs_heap.proofs.Lists.{listed_forth}
use Rattle.hs_pure.specs.Stack.{same}
use Rattle.hs_core.specs.declared.instr.Instr.TheVariants as instr
use Rattle.hs_core.specs.declared.program.Pair.{Pair}
use Rattle.hs_core.specs.declared.program.Method.{Method}
use Rattle.hs_core.specs.declared.program.Program.{Program}
use Rattle.hs_core.specs.declared.state.At.{At}
use Rattle.hs_core.specs.Set.{optional}
use Rattle.hs_core.specs.Sound.{PairFits, reserved_vars}
use Rattle.hs_core.proofs.GivenVars.{from_in}
use Rattle.hs_program_rules.specs.States.{Held, variable_in, IsOwn, StateFits, method_at, pair_at}
use Rattle.hs_program_rules.specs.Parts.{variables_in, result_var, last_vars, return_renaming}
use Rattle.hs_program_rules.specs.Table.{ReadsHeld}
use Rattle.hs_program_rules.proofs.Pairs.{names, bound_no_name, bound_low}
use Rattle.hs_program_rules.proofs.Standing.{AreNumbers, map_length, from_length, from_numbers, number_kinds, held_numbers}
use Rattle.hs_program_fits.proofs.Shapes.{IsShaped}
use Rattle.hs_program_fits.proofs.Renamed.{renamed_shaped}

module _ (defs : Defs) (program : Program) (at : At) (wf : StateFits defs program at) (pair : PairFits defs (method_at program at) (pair_at program at)) (from : Option ℕ)
    (reads : ReadsHeld (method_at program at) at.state.slots (instr.Return from)) where
  abbrev m : Method
  m = method_at program at

  abbrev p : Pair
  p = pair_at program at

  abbrev held : Held
  held = at.state.slots

  -- the variables that become others, and these
  abbrev given : Option ℕ → List Var
  given None = last_vars m
  given (Some k) = result_var m ∷ last_vars m

  abbrev taken : Option ℕ → List Var
  taken o = variables_in held (optional o ++ m.refs)

  renaming_is : (o : Option ℕ) (v : Var) → return_renaming m o held v ≡ put_arguments (given o) (taken o) (λ w. w) v
  renaming_is None v = refl
  renaming_is (Some k) v = refl

  given_numbers : (o : Option ℕ) → AreNumbers (given o)
  given_numbers None = from_numbers (suc (suc m.params)) (length m.refs)
  given_numbers (Some k) = All-cons (λ (x : Var). x.bag ≡ false) (result_var m) (last_vars m) refl (from_numbers (suc (suc m.params)) (length m.refs))

  sizes : (o : Option ℕ) → length (given o) ≡ length (taken o)
  sizes None = from_length (suc (suc m.params)) (length m.refs) ∙ sym (map_length (variable_in held) m.refs)
  sizes (Some k) = let e = from_length (suc (suc m.params)) (length m.refs) in let f = map_length (variable_in held) m.refs in omega arith

  given_out : (o : Option ℕ) (v : Var) → is_in v (reserved_vars m) ≡ false → is_in v (given o) ≡ false
  given_out None v e = or_false_right (same v (result_var m)) (is_in v (last_vars m)) e
  given_out (Some k) v e = e

  abbrev r : Var → Var
  r = return_renaming m from held

  same_kinds : kinds (given from) ≡ kinds (taken from)
  same_kinds = number_kinds (given from) (taken from) (given_numbers from) (held_numbers defs program at wf (optional from ++ m.refs) reads) (sizes from)

  keeps : KeepsKinds r
  keeps v = ap (λ (x : Var). x.bag) (renaming_is from v) ∙ put-kind (given from) (taken from) (λ w. w) v same_kinds refl

  taken_own : All (IsOwn m p) (taken from)
  taken_own = All-map (IsOwn m p) (variable_in held) (optional from ++ m.refs) (λ i k less.
      (wf.held (slice_index_or (optional from ++ m.refs) i k) (variable_in held (slice_index_or (optional from ++ m.refs) i k)) (reads i k less)).0)

  -- what the postcondition binds stays apart
  apart : (d : Disjunct) → DisjunctFits defs (names defs m p pair) p.next d → DisjunctKeepsApart r d
  apart d f u v b o e =
      let none = bound_no_name defs m p pair d f u b in
      let low = bound_low defs m p pair d f u b in
      let stays : r u ≡ u = renaming_is from u ∙ put-out (given from) (taken from) (λ w. w) u (given_out from u none.unreserved) in
      elim (bool_cases (is_in v (given from))) [
        | inl is ↦
            let own = listed_forth (IsOwn m p) (taken from) taken_own (put_arguments (given from) (taken from) (λ w. w) v) (put-in (given from) (taken from) (λ w. w) v same_kinds is) in
            elim (subst (IsOwn m p) (sym (renaming_is from v) ∙ sym e ∙ stays) own) [
              | inl slot ↦ let (kind, (one, up)) = slot in clash (from_in u 1 m.params kind one (omega arith)) none.no_param
              | inr new ↦ let high = new.1 in absurd (omega arith)
            ]
        | inr isnt ↦ sym stays ∙ e ∙ (renaming_is from v ∙ put-out (given from) (taken from) (λ w. w) v isnt)
      ]

  pub own_post_shaped : IsShaped defs (renamed_formula r p.post)
  own_post_shaped = renamed_shaped defs r keeps (names defs m p pair) p.next p.post pair.post
      (All-weaker (DisjunctFits defs (names defs m p pair) p.next) (DisjunctKeepsApart r) apart p.post.cases pair.post)
