-- Where no type is at fault, values of calls have results, and returns give what is wanted.
use Rattle.std.proofs.Common.{◌≡◌, ℕ, Bool, true, false, List, [], ◌∷◌, map, Option, Some, None, is_some, refl, sym, subst, true≢false}
use Rattle.hs_tree.specs.declared.ident.Ident.{Ident}
use Rattle.hs_tree.specs.declared.expr.PartTree.{PartTree}
use Rattle.hs_tree.specs.declared.expr.ExprTree.{ExprTree}
use Rattle.hs_tree.specs.declared.item.RelTree.{RelTree}
use Rattle.hs_tree.specs.declared.item.RelTree.TheVariants as rel
use Rattle.hs_tree.specs.declared.method.CallTree.{CallTree}
use Rattle.hs_tree.specs.declared.method.ValueTree.{ValueTree}
use Rattle.hs_tree.specs.declared.method.ValueTree.TheVariants as value_of
use Rattle.hs_tree.specs.declared.method.CondTree.{CondTree}
use Rattle.hs_heap.specs.declared.definitions.NodeDef.{NodeDef}
use Rattle.hs_declared.specs.declared.types.VarType.{VarType}
use Rattle.hs_norm.specs.declared.resolved.Param.{Param}
use Rattle.hs_norm.specs.declared.resolved.MethodTree.{MethodTree}
use Rattle.hs_lower_scope.specs.Scope.{Scope, node_named, method_named, field_type, is_of}
use Rattle.hs_lower_scope.specs.Terms.{bare, parts_of, part_variable}
use Rattle.hs_lower_faults.specs.First.{both, fits}
use Rattle.hs_lower_faults.specs.Types.{same_type, type_of_expr, goes, alike, is_number, result_goes, method_result, variable, part, expression_by, expression, wanted, each_wanted, node_args, method_args, call, no_field, load_by, store_by, field_kind, new_node, call_value, value, equal_sides, int_sides, sides, relation, test_by, condition, give}
use Rattle.hs_lower_sound.proofs.Passed.{Passes, Stays, pass_passes, passes_more, stays, fits_passes, both_pass, both_stay, all_stay, optional_stays}
use Rattle.hs_lower_sound.proofs.ConditionChecks.{cond_stays}
use Rattle.hs_lower_sound.proofs.Values.{Gives, GivesBack}

fits_stay : (b : Bool) (at : ℕ) → Stays (fits b at)
fits_stay b at = stays (fits b at) (b ≡ true) (fits_passes b at)

module _ (scope : Scope) where
  -- ---- expressions

  variable_stays : (x : Ident) → Stays (variable scope x)
  variable_stays x = fits_stay _ x.at

  pub expression_stays : (e : ExprTree) → Stays (expression scope e)
  expression_stays e = of (bare e) (parts_of e.kind)
    where
      of : (o : Option Ident) (ps : List (Bool × PartTree)) → Stays (expression_by scope o ps)
      of (Some x) ps = pass_passes
      of None ps = all_stay (part scope) (λ p. optional_stays (variable scope) variable_stays (part_variable p)) ps

  wanted_stays : (want : VarType) (e : ExprTree) → Stays (wanted scope want e)
  wanted_stays want e = both_stay (expression scope e) (fits (goes (type_of_expr scope e) want) e.at) (expression_stays e) (fits_stay (goes (type_of_expr scope e) want) e.at)

  each_stays : (ws : List VarType) (es : List ExprTree) → Stays (each_wanted scope ws es)
  each_stays [] es = pass_passes
  each_stays (w ∷ ws) [] = pass_passes
  each_stays (w ∷ ws) (e ∷ es) = both_stay (wanted scope w e) (each_wanted scope ws es) (wanted_stays w e) (each_stays ws es)

  -- ---- values

  pub call_stays : (c : CallTree) → Stays (call scope c)
  call_stays c = of (method_named scope c.name.text)
    where
      of : (o : Option MethodTree) → Stays (method_args scope o c.args)
      of None = pass_passes
      of (Some m) = each_stays (map (λ (p : Param). p.kind) m.params) c.args

  node_stays : (o : Option NodeDef) (es : List ExprTree) → Stays (node_args scope o es)
  node_stays None es = pass_passes
  node_stays (Some d) es = each_stays (map (λ (f : List ℕ × Option ℕ). field_type f.1) d.fields) es

  new_stays : (want : VarType) (at : ℕ) (x : Ident) (args : List ExprTree) → Stays (new_node scope want at x args)
  new_stays want at x args = both_stay (fits (is_of scope.defs want x.text) at) (node_args scope (node_named scope x.text) args) (fits_stay (is_of scope.defs want x.text) at) (node_stays (node_named scope x.text) args)

  no_field_stays : (x f : Ident) → Stays (no_field scope x f)
  no_field_stays x f = fits_stay false _

  load_stays : (want : VarType) (x f : Ident) (o : Option VarType) → Stays (load_by scope want x f o)
  load_stays want x f None = no_field_stays x f
  load_stays want x f (Some kind) = fits_stay (same_type kind want) x.at

  pub store_stays : (x f : Ident) (e : ExprTree) → Stays (both (expression scope e) (store_by scope x f e (field_kind scope x f)))
  store_stays x f e = both_stay (expression scope e) (store_by scope x f e (field_kind scope x f)) (expression_stays e) (of (field_kind scope x f))
    where
      of : (o : Option VarType) → Stays (store_by scope x f e o)
      of None = no_field_stays x f
      of (Some kind) = fits_stay (goes (type_of_expr scope e) kind) e.at

  has_result : (want : VarType) (o : Option VarType) → result_goes o want ≡ true → is_some o ≡ true
  has_result want None e = e
  has_result want (Some have) e = refl

  call_gives : (want : VarType) (c : CallTree) → Passes (call_value scope want c) (Gives scope (value_of.Call c))
  call_gives want c = passes_more (call_value scope want c) (Unit {0} × (result_goes (method_result (method_named scope c.name.text)) want ≡ true)) (Gives scope (value_of.Call c))
      (λ h m is. has_result want m.result (subst (λ o. result_goes (method_result o) want ≡ true) is h.1))
      (both_pass (call scope c) (fits (result_goes (method_result (method_named scope c.name.text)) want) c.name.at) (Unit {0}) (result_goes (method_result (method_named scope c.name.text)) want ≡ true) (call_stays c)
      (fits_passes (result_goes (method_result (method_named scope c.name.text)) want) c.name.at))

  pub value_gives : (want : VarType) (v : ValueTree) → Passes (value scope want v) (Gives scope v)
  value_gives want (value_of.New at x args) = new_stays want at x args
  value_gives want (value_of.Call c) = call_gives want c
  value_gives want (value_of.Load x f) = load_stays want x f (field_kind scope x f)
  value_gives want (value_of.Value e) = wanted_stays want e

  -- ---- conditions

  equal_stay : (a b : ExprTree) → Stays (equal_sides scope a b)
  equal_stay a b = fits_stay (alike (type_of_expr scope a) (type_of_expr scope b)) b.at

  int_stay : (a b : ExprTree) → Stays (int_sides scope a b)
  int_stay a b = both_stay (fits (is_number (type_of_expr scope a)) a.at) (fits (is_number (type_of_expr scope b)) b.at) (fits_stay (is_number (type_of_expr scope a)) a.at) (fits_stay (is_number (type_of_expr scope b)) b.at)

  sides_stay : (r : RelTree) (a b : ExprTree) → Stays (sides scope r a b)
  sides_stay rel.Eq a b = equal_stay a b
  sides_stay rel.Ne a b = equal_stay a b
  sides_stay r a b = int_stay a b

  relation_stays : (r : RelTree) (a b : ExprTree) → Stays (relation scope r a b)
  relation_stays r a b = both_stay (expression scope a) (both (expression scope b) (sides scope r a b)) (expression_stays a) (both_stay (expression scope b) (sides scope r a b) (expression_stays b) (sides_stay r a b))

  pub condition_stays : (c : CondTree) → Stays (condition scope c)
  condition_stays = cond_stays (test_by scope) (λ t h. h) (λ c h. h) relation_stays

  -- ---- returns

  pub give_passes : (at : ℕ) (want : Option VarType) (o : Option ExprTree) → Passes (give scope at want o) (GivesBack want o)
  give_passes at None None = pass_passes
  give_passes at None (Some e) = passes_more (both (expression scope e) (fits false e.at)) (Unit {0} × (false ≡ true)) ⊥ (λ h. absurd (true≢false (sym h.1)))
      (both_pass (expression scope e) (fits false e.at) (Unit {0}) (false ≡ true) (expression_stays e) (fits_passes false e.at))
  give_passes at (Some want) None = passes_more (fits false at) (false ≡ true) ⊥ (λ h. absurd (true≢false (sym h))) (fits_passes false at)
  give_passes at (Some want) (Some e) = wanted_stays want e
