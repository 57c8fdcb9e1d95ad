-- What a method's block speaks of: its variables with their slots and types, the data types and the methods.
use Rattle.std.specs.Prelude.{ℕ, suc, nat_eq, ◌++◌, Bool, false, List, [], ◌∷◌, map, Option, Some, None, slice_get, option_map}
use Rattle.std.specs.List.{position, find, flat_map}
use Rattle.std.specs.Option.{unwrap_or}
use Rattle.std.specs.Str.{bytes_eq}
use Rattle.hs_tree.specs.declared.method.TypeTree.{TypeTree}
use Rattle.hs_tree.specs.declared.method.TypeTree.TheVariants as tree
use Rattle.hs_tree.specs.declared.method.BlockTree.{BlockTree, fold-BlockTree}
use Rattle.hs_tree.specs.declared.method.StatementTree.{StatementTree, fold-StatementTree}
use Rattle.hs_tree.specs.declared.method.StatementKind.TheOpen.{StatementKind-F}
use Rattle.hs_heap.specs.declared.definitions.NodeDef.{NodeDef}
use Rattle.hs_heap.specs.declared.definitions.Defs.{Defs}
use Rattle.hs_heap.specs.Sound.{node_at}
use Rattle.hs_declared.specs.declared.types.VarType.{VarType}
use Rattle.hs_declared.specs.declared.types.VarType.TheVariants.{Int, Node}
use Rattle.hs_norm.specs.declared.resolved.Param.{Param}
use Rattle.hs_norm.specs.declared.resolved.MethodTree.{MethodTree}
use Rattle.hs_norm.specs.declared.resolved.Resolved.{Resolved}
use Rattle.hs_lower_scope.specs.declared.variable.Variable.{Variable}
use Rattle.hs_lower_scope.specs.declared.variable.Field.{Field}

-- a text
abbrev pub Name : Type 0
Name = List ℕ

-- slot k is that of the k-th variable
pub record Scope : Type 0 where
  pub defs : Defs
  pub methods : List MethodTree
  pub variables : List Variable
  pub result : Option VarType

-- the number from 1 of a place, or 0
abbrev pub number_by_place : Option ℕ → ℕ
number_by_place None = 0
number_by_place (Some i) = suc i

-- the number from 1 of the first item that passes, or 0
abbrev pub number_by : {A : Type 0} → (A → Bool) → List A → ℕ
number_by p xs = number_by_place (position p xs)

-- ---- data types

-- the number of a data type by its name
abbrev pub node_number : Defs → Name → ℕ
node_number defs x = number_by (λ (d : NodeDef). bytes_eq d.name x) defs.nodes

-- a type by its tree
abbrev pub type_of : Defs → TypeTree → VarType
type_of defs (tree.Int at) = Int
type_of defs (tree.Named x) = Node (node_number defs x.text)

-- whether a number from 1 is that of a place, or 0 where there is none
abbrev pub is_number : ℕ → Option ℕ → Bool
is_number k place = nat_eq (number_by_place place) k

-- whether the type is the data type of the name
abbrev pub is_of : Defs → VarType → Name → Bool
is_of defs Int x = false
is_of defs (Node k) x = nat_eq (node_number defs x) k

-- a field points to a data type or is an int
abbrev pub field_type : Option ℕ → VarType
field_type None = Int
field_type (Some k) = Node k

-- ---- variables

-- a parameter
abbrev pub param_variable : Param → Variable
param_variable p = record { name = p.name; kind = p.kind }

abbrev pub optional_list : {A : Type 0} → Option (List A) → List A
optional_list None = []
optional_list (Some xs) = xs

module _ (defs : Defs) where
  -- those that a statement declares, from those of its parts
  abbrev pub kind_variables : StatementKind-F (List Variable) (List Variable) (List Variable) → List Variable
  kind_variables (StatementKind-F.Local kind x value) = record { name = x.text; kind = type_of defs kind } ∷ []
  kind_variables (StatementKind-F.Assign x value) = []
  kind_variables (StatementKind-F.Store x f e) = []
  kind_variables (StatementKind-F.Call c) = []
  kind_variables (StatementKind-F.Branch c body other) = body ++ optional_list other
  kind_variables (StatementKind-F.Return e) = []

  -- the locals that a statement declares
  abbrev pub statement_variables : StatementTree → List Variable
  statement_variables = fold-StatementTree (List Variable) (List Variable) (List Variable) kind_variables (λ b. flat_map (λ xs. xs) b.statements) (λ s. s.kind)

  -- the locals that a block declares, in the order of their declarations
  abbrev pub block_variables : BlockTree → List Variable
  block_variables = fold-BlockTree (List Variable) (List Variable) (List Variable) kind_variables (λ b. flat_map (λ xs. xs) b.statements) (λ s. s.kind)

-- the scope of a method: its parameters, then the locals of its block
abbrev pub scope_of : Resolved → MethodTree → Scope
scope_of r m = record {
  defs = r.defs;
  methods = r.methods;
  variables = map param_variable m.params ++ block_variables r.defs m.block;
  result = m.result;
}

-- ---- what is found under a name

module _ (scope : Scope) where
  -- the slot of a variable
  abbrev pub slot_of : Name → ℕ
  slot_of x = number_by (λ (v : Variable). bytes_eq v.name x) scope.variables

  -- the type of a variable
  abbrev pub kind_of : Name → VarType
  kind_of x = unwrap_or (option_map (λ (v : Variable). v.kind) (find (λ (v : Variable). bytes_eq v.name x) scope.variables)) Int

  abbrev pub method_number : Name → ℕ
  method_number x = number_by (λ (m : MethodTree). bytes_eq m.name x) scope.methods

  abbrev pub method_named : Name → Option MethodTree
  method_named x = find (λ (m : MethodTree). bytes_eq m.name x) scope.methods

  abbrev pub node_named : Name → Option NodeDef
  node_named x = find (λ (d : NodeDef). bytes_eq d.name x) scope.defs.nodes

-- ---- fields

-- the type of a field at a place
abbrev pub kind_by : List (Name × Option ℕ) → Option ℕ → Option VarType
kind_by fields None = None
kind_by fields (Some i) = option_map (λ (x : Name × Option ℕ). field_type x.1) (slice_get fields i)

abbrev pub field_place : List (Name × Option ℕ) → Name → Option ℕ
field_place fields f = position (λ (x : Name × Option ℕ). bytes_eq x.0 f) fields

-- the type of the field of the name
abbrev pub kind_of_field : Name → Option NodeDef → Option VarType
kind_of_field f None = None
kind_of_field f (Some d) = kind_by d.fields (field_place d.fields f)

abbrev pub field_by : ℕ → ℕ → Option VarType → Option Field
field_by k number None = None
field_by k number (Some kind) = Some (record { node = k; number = number; kind = kind })

-- the field of the name of the data type of number k
abbrev pub field_of : ℕ → Name → Option NodeDef → Option Field
field_of k f None = None
field_of k f (Some d) = field_by k (number_by_place (field_place d.fields f)) (kind_by d.fields (field_place d.fields f))

-- the type of the field of the name of a type that is a data type
abbrev pub field_kind_in : Defs → VarType → Name → Option VarType
field_kind_in defs Int f = None
field_kind_in defs (Node k) f = kind_of_field f (node_at defs k)

-- the field of the name of a type that is a data type
abbrev pub field_in : Defs → VarType → Name → Option Field
field_in defs Int f = None
field_in defs (Node k) f = field_of k f (node_at defs k)
