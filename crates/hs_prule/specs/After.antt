-- The state after each instruction, by the parts that the code has at hand.
use Rattle.std.specs.Prelude.{ℕ, suc, ◌-◌, List, [], ◌∷◌, ◌++◌, map, Option, slice_set}
use Rattle.hs_pure.specs.declared.var.Var.{Var}
use Rattle.hs_pure.specs.declared.lin.Lin.{Lin}
use Rattle.hs_pure.specs.declared.pure.Pure.{Pure}
use Rattle.hs_pure.specs.declared.pure.Pure.TheVariants as pure_of
use Rattle.hs_pure.specs.Equated.{variable_sum}
use Rattle.hs_pure.specs.Rename.{renamed, renamed_lin}
use Rattle.hs_heap.specs.declared.formula.Disjunct.{Disjunct}
use Rattle.hs_heap.specs.declared.formula.Formula.{Formula}
use Rattle.hs_heap.specs.Renamed.{renamed_formula}
use Rattle.hs_rules.specs.Parts.{only, plain, opened}
use Rattle.hs_core.specs.declared.program.Pair.{Pair}
use Rattle.hs_core.specs.declared.program.Method.{Method}
use Rattle.hs_core.specs.declared.state.At.{At}
use Rattle.hs_core.specs.Machine.{numbered, picked}
use Rattle.hs_program_rules.specs.States.{number_var, variable_in}
use Rattle.hs_program_rules.specs.Parts.{goes, with_held, node_atom, beside, conjuncts, all_joined, call_renaming, result_var, last_vars, variables_in, all_held, result_held}

module _ (at : At) where
  abbrev pub after_assign : Disjunct → ℕ → Lin → At
  after_assign d to term =
      goes at (suc at.point) (with_held at.state.slots to (number_var at.state.next))
      (plain d.atoms (d.pure ++ pure_of.Eq (variable_sum (number_var at.state.next)) (renamed_lin (λ v. variable_in at.state.slots v.number) term) ∷ []))

  abbrev pub after_new : Disjunct → ℕ → ℕ → List ℕ → At
  after_new d to kind args =
      goes at (suc at.point) (with_held at.state.slots to (number_var at.state.next))
      (plain (d.atoms ++ node_atom (number_var at.state.next) kind (variables_in at.state.slots args) ∷ []) d.pure)

  abbrev pub after_get : List Var → ℕ → ℕ → ℕ → ℕ → Formula → At
  after_get fields to slot kind field residue =
      goes at (suc at.point) (with_held at.state.slots to (numbered fields field (number_var 0)))
      (beside (node_atom (variable_in at.state.slots slot) kind fields) residue)

  abbrev pub after_set : List Var → ℕ → ℕ → ℕ → ℕ → Formula → At
  after_set fields slot kind field from residue =
      goes at (suc at.point) at.state.slots
      (beside (node_atom (variable_in at.state.slots slot) kind (slice_set fields (field - 1) (variable_in at.state.slots from))) residue)

  abbrev pub after_true : Disjunct → Pure → At
  after_true d condition = goes at (suc at.point) at.state.slots (plain d.atoms (d.pure ++ conjuncts condition))

  abbrev pub after_false : Disjunct → Pure → ℕ → At
  after_false d condition other = goes at other at.state.slots (plain d.atoms (d.pure ++ pure_of.Not condition ∷ []))

  abbrev pub after_call : Method → Pair → Option ℕ → List ℕ → Formula → At
  after_call m p to args residue =
      let r = call_renaming m p (variables_in at.state.slots args) at.state.next in
      goes at (suc at.point) (result_held to (r (result_var m)) (all_held at.state.slots (picked args m.refs) (map r (last_vars m))))
      (all_joined residue (renamed_formula r p.post))

  -- the condition over slots
  abbrev pub both_ways : Disjunct → Pure → ℕ → List At
  both_ways d condition other = after_true d condition ∷ after_false d condition other ∷ []

  abbrev pub branches : Disjunct → Pure → ℕ → List At
  branches d condition other = both_ways d (renamed (λ v. variable_in at.state.slots v.number) condition) other

  abbrev pub opened_state : Disjunct → At
  opened_state d = goes at at.point at.state.slots (only (opened d at.state.next))

  abbrev pub all_opened : List Disjunct → List At
  all_opened ds = map opened_state ds
