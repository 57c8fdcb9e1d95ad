-- A fault of types stays, and each field that is read is there.
use Rattle.std.proofs.Common.{◌≡◌, ℕ, Bool, true, false, List, [], ◌∷◌, map, Option, Some, None, IsSome, refl}
use Rattle.hs_tree.specs.declared.ident.Ident.{Ident}
use Rattle.hs_tree.specs.declared.expr.PartTree.{PartTree}
use Rattle.hs_tree.specs.declared.expr.ExprTree.{ExprTree}
use Rattle.hs_tree.specs.declared.item.RelTree.{RelTree}
use Rattle.hs_tree.specs.declared.item.RelTree.TheVariants as rel
use Rattle.hs_tree.specs.declared.method.CallTree.{CallTree}
use Rattle.hs_tree.specs.declared.method.CondTree.{CondTree}
use Rattle.hs_tree.specs.declared.method.ValueTree.{ValueTree}
use Rattle.hs_tree.specs.declared.method.ValueTree.TheVariants as value_of
use Rattle.hs_heap.specs.declared.definitions.NodeDef.{NodeDef}
use Rattle.hs_heap.specs.declared.definitions.Defs.{Defs}
use Rattle.hs_heap.specs.Sound.{node_at}
use Rattle.hs_declared.specs.declared.types.VarType.{VarType}
use Rattle.hs_declared.specs.declared.types.VarType.TheVariants as kind_of_type
use Rattle.hs_norm.specs.declared.resolved.Param.{Param}
use Rattle.hs_norm.specs.declared.resolved.MethodTree.{MethodTree}
use Rattle.hs_lower_scope.specs.Scope.{Name, Scope, kind_of, node_named, method_named, number_by_place, field_place, field_type, field_by, field_of, field_in, kind_by, kind_of_field, field_kind_in}
use Rattle.hs_lower_scope.specs.Terms.{bare, parts_of, part_variable}
use Rattle.hs_lower_faults.specs.First.{both, fits}
use Rattle.hs_lower_faults.specs.Types as types
use Rattle.hs_lower.specs.Code as lower
use Rattle.hs_lower_set.proofs.Telling.{Tells, Clears, weaker, pass_tells, both_clear, fits_tells, fits_clears, optional_clears, each_clears}
use Rattle.hs_lower_set.proofs.Conditions.{tells_of_condition}

-- a fault, which is there, unless
impossible : (at : ℕ) (A : Type 0) → Tells (fits false at) A
impossible at A = weaker (fits false at) (false ≡ true) A (λ e. cc) (fits_tells false at)

-- ---- fields

field_there : (defs : Defs) (kind : VarType) (f : Name) → IsSome (field_kind_in defs kind f) → IsSome (field_in defs kind f)
field_there defs kind_of_type.Int f h = h
field_there defs (kind_of_type.Node k) f h = of (node_at defs k) h
  where
    by_kind : (number : ℕ) (o : Option VarType) → IsSome o → IsSome (field_by k number o)
    by_kind number None e = e
    by_kind number (Some kind) e = refl

    of : (o : Option NodeDef) → IsSome (kind_of_field f o) → IsSome (field_of k f o)
    of None e = e
    of (Some d) e = by_kind (number_by_place (field_place d.fields f)) (kind_by d.fields (field_place d.fields f)) e

module _ (scope : Scope) where
  -- ---- expressions

  part_clears : (p : Bool × PartTree) → Clears (types.part scope p)
  part_clears p = optional_clears (types.variable scope) (λ x. fits_clears _ x.at) (part_variable p)

  by_clears : (o : Option Ident) (parts : List (Bool × PartTree)) → Clears (types.expression_by scope o parts)
  by_clears (Some x) parts = pass_tells
  by_clears None parts = each_clears (types.part scope) part_clears parts

  expression_clears : (e : ExprTree) → Clears (types.expression scope e)
  expression_clears e = by_clears (bare e) (parts_of e.kind)

  wanted_clears : (want : VarType) (e : ExprTree) → Clears (types.wanted scope want e)
  wanted_clears want e = both_clear (types.expression scope e) (fits _ e.at) (expression_clears e) (fits_clears _ e.at)

  -- ---- arguments

  each_wanted_clears : (ws : List VarType) (es : List ExprTree) → Clears (types.each_wanted scope ws es)
  each_wanted_clears [] es = pass_tells
  each_wanted_clears (w ∷ ws) [] = pass_tells
  each_wanted_clears (w ∷ ws) (e ∷ es) = both_clear (types.wanted scope w e) (types.each_wanted scope ws es) (wanted_clears w e) (each_wanted_clears ws es)

  node_args_clear : (d : Option NodeDef) (es : List ExprTree) → Clears (types.node_args scope d es)
  node_args_clear None es = pass_tells
  node_args_clear (Some d) es = each_wanted_clears (map (λ (f : Name × Option ℕ). field_type f.1) d.fields) es

  method_args_clear : (m : Option MethodTree) (es : List ExprTree) → Clears (types.method_args scope m es)
  method_args_clear None es = pass_tells
  method_args_clear (Some m) es = each_wanted_clears (map (λ (p : Param). p.kind) m.params) es

  pub call_clears : (c : CallTree) → Clears (types.call scope c)
  call_clears c = method_args_clear (method_named scope c.name.text) c.args

  -- ---- values

  -- the field of a value that reads one is there
  abbrev pub FieldIsThere : ValueTree → Type 0
  FieldIsThere (value_of.New at x args) = Unit {0}
  FieldIsThere (value_of.Call c) = Unit {0}
  FieldIsThere (value_of.Load x f) = IsSome (lower.field_found scope x f)
  FieldIsThere (value_of.Value e) = Unit {0}

  load_tells : (want : VarType) (x f : Ident) (o : Option VarType) → Tells (types.load_by scope want x f o) (IsSome o)
  load_tells want x f None = impossible _ (IsSome {T = VarType} None)
  load_tells want x f (Some kind) = weaker (fits (types.same_type kind want) x.at) (types.same_type kind want ≡ true) (IsSome (Some kind)) (λ e. refl) (fits_tells _ x.at)

  store_clears : (x f : Ident) (e : ExprTree) (o : Option VarType) → Clears (types.store_by scope x f e o)
  store_clears x f e None = fits_clears false _
  store_clears x f e (Some kind) = fits_clears _ e.at

  pub value_tells : (want : VarType) (v : ValueTree) → Tells (types.value scope want v) (FieldIsThere v)
  value_tells want (value_of.New at x args) = both_clear (fits _ at) (types.node_args scope (node_named scope x.text) args) (fits_clears _ at) (node_args_clear (node_named scope x.text) args)
  value_tells want (value_of.Call c) = both_clear (types.call scope c) (fits _ c.name.at) (call_clears c) (fits_clears _ c.name.at)
  value_tells want (value_of.Load x f) = weaker (types.load_by scope want x f (types.field_kind scope x f)) (IsSome (types.field_kind scope x f)) (IsSome (lower.field_found scope x f))
      (field_there scope.defs (kind_of scope x.text) f.text) (load_tells want x f (types.field_kind scope x f))
  value_tells want (value_of.Value e) = wanted_clears want e

  -- ---- conditions

  sides_clear : (r : RelTree) (a b : ExprTree) → Clears (types.sides scope r a b)
  sides_clear rel.Eq a b = fits_clears _ b.at
  sides_clear rel.Ne a b = fits_clears _ b.at
  sides_clear r a b = both_clear (fits _ a.at) (fits _ b.at) (fits_clears _ a.at) (fits_clears _ b.at)

  relation_clears : (r : RelTree) (a b : ExprTree) → Clears (types.relation scope r a b)
  relation_clears r a b = both_clear (types.expression scope a) (both (types.expression scope b) (types.sides scope r a b)) (expression_clears a)
      (both_clear (types.expression scope b) (types.sides scope r a b) (expression_clears b) (sides_clear r a b))

  pub condition_clears : (c : CondTree) → Clears (types.condition scope c)
  condition_clears = tells_of_condition scope (types.test_by scope) (λ t i. t) (λ c i. c) (λ p. Unit {0}) (λ p h. tt) (λ ps h. tt) (λ ps h. tt) relation_clears

  -- ---- statements

  pub store_typed : (x f : Ident) (e : ExprTree) → Clears (both (types.expression scope e) (types.store_by scope x f e (types.field_kind scope x f)))
  store_typed x f e = both_clear (types.expression scope e) (types.store_by scope x f e (types.field_kind scope x f)) (expression_clears e) (store_clears x f e (types.field_kind scope x f))

  pub give_clears : (at : ℕ) (result : Option VarType) (e : Option ExprTree) → Clears (types.give scope at result e)
  give_clears at None None = pass_tells
  give_clears at None (Some e) = both_clear (types.expression scope e) (fits false e.at) (expression_clears e) (fits_clears false e.at)
  give_clears at (Some want) None = fits_clears false at
  give_clears at (Some want) (Some e) = wanted_clears want e
