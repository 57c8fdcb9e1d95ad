-- Types of fields, parameters, locals and results, and names that nothing declares.
use Rattle.std.specs.Prelude.{ℕ, List, Option, Some, None}
use Rattle.hs_tree.specs.declared.ident.Ident.{Ident}
use Rattle.hs_tree.specs.declared.method.TypeTree.{TypeTree}
use Rattle.hs_tree.specs.declared.method.TypeTree.TheVariants as tree
use Rattle.hs_heap.specs.declared.formula.Of.{Of}
use Rattle.hs_heap.specs.declared.formula.Of.TheVariants as of
use Rattle.hs_numbering.specs.declared.fault.Problem.TheVariants.{Unknown}
use Rattle.hs_numbering.specs.Numbering.{Builder, ◌>>◌, ◌<$>◌, pure, blame}
use Rattle.hs_norm_formula.specs.declared.table.Entry.{Entry}
use Rattle.hs_norm_formula.specs.Table.{entry}
use Rattle.hs_declared.specs.declared.types.VarType.{VarType}
use Rattle.hs_declared.specs.declared.types.VarType.TheVariants.{Int, Node}

-- a name that nothing declares
abbrev pub undeclared : Ident → Builder (Unit {0})
undeclared x = blame x.at (Unknown x.text)

abbrev pub node_by : Entry → Of → Option (ℕ × Entry)
node_by e (of.Node k) = Some (k, e)
node_by e (of.Pred k) = None

-- the declaration of a name as a data type, with its number
abbrev pub as_node : Option Entry → Option (ℕ × Entry)
as_node None = None
as_node (Some e) = node_by e e.of

abbrev pub type_by : Ident → Option (ℕ × Entry) → Builder VarType
type_by x None = undeclared x >> pure Int
type_by x (Some d) = pure (Node d.0)

-- a name that is no data type's is unknown
abbrev pub type_of : List Entry → TypeTree → Builder VarType
type_of entries (tree.Int at) = pure Int
type_of entries (tree.Named x) = type_by x (as_node (entry x.text entries))

abbrev pub optional_type : List Entry → Option TypeTree → Builder (Option VarType)
optional_type entries None = pure None
optional_type entries (Some t) = Some <$> type_of entries t
