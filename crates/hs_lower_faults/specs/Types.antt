-- Where types do not fit.
use Rattle.std.specs.Prelude.{ℕ, nat_eq, Bool, true, false, not, if◌then◌else◌, List, [], ◌∷◌, map, Option, Some, None}
use Rattle.hs_tree.specs.declared.ident.Ident.{Ident}
use Rattle.hs_tree.specs.declared.expr.PartTree.{PartTree}
use Rattle.hs_tree.specs.declared.expr.ExprTree.{ExprTree}
use Rattle.hs_tree.specs.declared.item.RelTree.{RelTree}
use Rattle.hs_tree.specs.declared.item.RelTree.TheVariants as rel
use Rattle.hs_tree.specs.declared.method.CallTree.{CallTree}
use Rattle.hs_tree.specs.declared.method.ValueTree.{ValueTree}
use Rattle.hs_tree.specs.declared.method.ValueTree.TheVariants as value_of
use Rattle.hs_tree.specs.declared.method.CondTree.{CondTree, fold-CondTree}
use Rattle.hs_tree.specs.declared.method.TestTree.{TestTree, fold-TestTree}
use Rattle.hs_tree.specs.declared.method.TestKind.TheOpen.{TestKind-F}
use Rattle.hs_tree.specs.declared.method.BlockTree.{BlockTree, fold-BlockTree}
use Rattle.hs_tree.specs.declared.method.StatementTree.{StatementTree, fold-StatementTree}
use Rattle.hs_tree.specs.declared.method.StatementKind.TheOpen.{StatementKind-F}
use Rattle.hs_heap.specs.declared.definitions.NodeDef.{NodeDef}
use Rattle.hs_declared.specs.declared.types.VarType.{VarType}
use Rattle.hs_declared.specs.declared.types.VarType.TheVariants.{Int, Node}
use Rattle.hs_norm.specs.declared.resolved.Param.{Param}
use Rattle.hs_norm.specs.declared.resolved.MethodTree.{MethodTree}
use Rattle.hs_lower_scope.specs.Scope.{Name, Scope, kind_of, node_named, method_named, field_kind_in, field_type, is_of}
use Rattle.hs_lower_scope.specs.Terms.{bare, is_null, parts_of, part_variable}
use Rattle.hs_lower_faults.specs.First.{Check, pass, both, all, optional, fits}

-- ---- types

abbrev pub same_type : VarType → VarType → Bool
same_type Int Int = true
same_type Int (Node k) = false
same_type (Node j) Int = false
same_type (Node j) (Node k) = nat_eq j k

abbrev pub is_node : VarType → Bool
is_node Int = false
is_node (Node k) = true

-- the type of an expression: that of its variable, none of `null`, or int
abbrev pub type_by : Scope → Option Ident → Bool → Option VarType
type_by scope (Some x) null = Some (kind_of scope x.text)
type_by scope None true = None
type_by scope None false = Some Int

abbrev pub type_of_expr : Scope → ExprTree → Option VarType
type_of_expr scope e = type_by scope (bare e) (is_null e)

-- whether a type, or null, goes where a type is wanted
abbrev pub goes : Option VarType → VarType → Bool
goes None want = is_node want
goes (Some have) want = same_type have want

-- whether two sides of an equation have one type, or one is null
abbrev pub alike : Option VarType → Option VarType → Bool
alike None b = true
alike (Some a) None = true
alike (Some a) (Some b) = same_type a b

abbrev pub is_number : Option VarType → Bool
is_number None = false
is_number (Some a) = not (is_node a)

-- whether a result, if there is one, goes where a type is wanted
abbrev pub result_goes : Option VarType → VarType → Bool
result_goes None want = false
result_goes (Some have) want = same_type have want

abbrev pub method_result : Option MethodTree → Option VarType
method_result None = None
method_result (Some m) = m.result

-- ---- what is looked at

module _ (scope : Scope) where
  -- ---- expressions

  -- a variable of an expression that is no bare variable is int
  abbrev pub variable : Ident → Check
  variable x = fits (not (is_node (kind_of scope x.text))) x.at

  abbrev pub part : Bool × PartTree → Check
  part p = optional variable (part_variable p)

  abbrev pub expression_by : Option Ident → List (Bool × PartTree) → Check
  expression_by (Some x) parts = pass
  expression_by None parts = all part parts

  -- an expression that is no bare variable has int variables alone
  abbrev pub expression : ExprTree → Check
  expression e = expression_by (bare e) (parts_of e.kind)

  -- an expression where a type is wanted
  abbrev pub wanted : VarType → ExprTree → Check
  wanted want e = both (expression e) (fits (goes (type_of_expr scope e) want) e.at)

  -- ---- arguments

  -- each expression where a type is wanted; as many are wanted as are given
  abbrev pub each_wanted : List VarType → List ExprTree → Check
  each_wanted [] es = pass
  each_wanted (w ∷ ws) [] = pass
  each_wanted (w ∷ ws) (e ∷ es) = both (wanted w e) (each_wanted ws es)

  -- fields that get expressions
  abbrev pub fields_wanted : List (Name × Option ℕ) → List ExprTree → Check
  fields_wanted fields es = each_wanted (map (λ (f : Name × Option ℕ). field_type f.1) fields) es

  -- parameters that get expressions
  abbrev pub params_wanted : List Param → List ExprTree → Check
  params_wanted params es = each_wanted (map (λ (p : Param). p.kind) params) es

  abbrev pub node_args : Option NodeDef → List ExprTree → Check
  node_args None es = pass
  node_args (Some d) es = fields_wanted d.fields es

  abbrev pub method_args : Option MethodTree → List ExprTree → Check
  method_args None es = pass
  method_args (Some m) es = params_wanted m.params es

  -- ---- values

  abbrev pub call : CallTree → Check
  call c = method_args (method_named scope c.name.text) c.args

  -- a variable without a data type, or a data type without the field
  abbrev pub no_field : Ident → Ident → Check
  no_field x f = fits false (if is_node (kind_of scope x.text) then f.at else x.at)

  abbrev pub load_by : VarType → Ident → Ident → Option VarType → Check
  load_by want x f None = no_field x f
  load_by want x f (Some kind) = fits (same_type kind want) x.at

  abbrev pub store_by : Ident → Ident → ExprTree → Option VarType → Check
  store_by x f e None = no_field x f
  store_by x f e (Some kind) = fits (goes (type_of_expr scope e) kind) e.at

  -- the type of a field of a variable
  abbrev pub field_kind : Ident → Ident → Option VarType
  field_kind x f = field_kind_in scope.defs (kind_of scope x.text) f.text

  -- a new node, a call, and any value where a type is wanted
  abbrev pub new_node : VarType → ℕ → Ident → List ExprTree → Check
  new_node want at x args = both (fits (is_of scope.defs want x.text) at) (node_args (node_named scope x.text) args)

  abbrev pub call_value : VarType → CallTree → Check
  call_value want c = both (call c) (fits (result_goes (method_result (method_named scope c.name.text)) want) c.name.at)

  abbrev pub value : VarType → ValueTree → Check
  value want (value_of.New at x args) = new_node want at x args
  value want (value_of.Call c) = call_value want c
  value want (value_of.Load x f) = load_by want x f (field_kind x f)
  value want (value_of.Value e) = wanted want e

  -- ---- conditions

  abbrev pub equal_sides : ExprTree → ExprTree → Check
  equal_sides a b = fits (alike (type_of_expr scope a) (type_of_expr scope b)) b.at

  abbrev pub int_sides : ExprTree → ExprTree → Check
  int_sides a b = both (fits (is_number (type_of_expr scope a)) a.at) (fits (is_number (type_of_expr scope b)) b.at)

  -- the sides of an equation have one type, those of any other test are int
  abbrev pub sides : RelTree → ExprTree → ExprTree → Check
  sides rel.Eq a b = equal_sides a b
  sides rel.Ne a b = equal_sides a b
  sides r a b = int_sides a b

  abbrev pub relation : RelTree → ExprTree → ExprTree → Check
  relation r a b = both (expression a) (both (expression b) (sides r a b))

  abbrev pub test_by : TestKind-F Check Check Check → Check
  test_by (TestKind-F.Not t) = t
  test_by (TestKind-F.Group c) = c
  test_by (TestKind-F.Rel r a b) = relation r a b

  abbrev pub test : TestTree → Check
  test = fold-TestTree Check Check Check test_by (λ c. all (all (λ t. t)) c.cases) (λ t. t.kind)

  abbrev pub condition : CondTree → Check
  condition = fold-CondTree Check Check Check test_by (λ c. all (all (λ t. t)) c.cases) (λ t. t.kind)

  -- ---- statements

  -- a return at a place has an expression exactly where a result is wanted
  abbrev pub give : ℕ → Option VarType → Option ExprTree → Check
  give at None None = pass
  give at None (Some e) = both (expression e) (fits false e.at)
  give at (Some want) None = fits false at
  give at (Some want) (Some e) = wanted want e

  -- a statement at a place
  abbrev pub statement_by : StatementKind-F (ℕ → Check) Check Check → ℕ → Check
  statement_by (StatementKind-F.Local kind x v) at = optional (value (kind_of scope x.text)) v
  statement_by (StatementKind-F.Assign x v) at = value (kind_of scope x.text) v
  statement_by (StatementKind-F.Store x f e) at = both (expression e) (store_by x f e (field_kind x f))
  statement_by (StatementKind-F.Call c) at = call c
  statement_by (StatementKind-F.Branch c body other) at = both (condition c) (both body (optional (λ b. b) other))
  statement_by (StatementKind-F.Return e) at = give at scope.result e

  abbrev pub statement : StatementTree → Check
  statement = fold-StatementTree (ℕ → Check) Check Check statement_by (λ b. all (λ s. s) b.statements) (λ s. s.kind s.at)

  -- the types of a block
  abbrev pub block : BlockTree → Check
  block = fold-BlockTree (ℕ → Check) Check Check statement_by (λ b. all (λ s. s) b.statements) (λ s. s.kind s.at)
