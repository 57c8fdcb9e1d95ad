-- Data types, predicates and lemmas.
use Rattle.std.specs.Prelude.{ℕ, Bool, not, nat_eq, List, [], length, map, Option, Some, None}
use Rattle.std.specs.List.{zip}
use mathlib.Core.Bool.{beq}
use Rattle.hs_tree.specs.declared.ident.Ident.{Ident}
use Rattle.hs_tree.specs.declared.item.ItemTree.{ItemTree}
use Rattle.hs_tree.specs.declared.method.ParamTree.{ParamTree}
use Rattle.hs_tree.specs.declared.source.DataTree.{DataTree}
use Rattle.hs_tree.specs.declared.source.PredTree.{PredTree}
use Rattle.hs_tree.specs.declared.source.LemmaTree.{LemmaTree}
use Rattle.hs_pure.specs.declared.var.Var.{Var}
use Rattle.hs_pure.specs.declared.pure.Pure.{Pure}
use Rattle.hs_pure.specs.declared.pure.Pure.TheVariants as pure_of
use Rattle.hs_heap.specs.declared.formula.Of.{Of}
use Rattle.hs_heap.specs.declared.formula.Of.TheVariants as of
use Rattle.hs_heap.specs.declared.definitions.NodeDef.{NodeDef}
use Rattle.hs_heap.specs.declared.definitions.PredDef.{PredDef}
use Rattle.hs_heap.specs.declared.definitions.Lemma.{Lemma}
use Rattle.hs_numbering.specs.declared.fault.Limit.TheVariants.{Nodes, Fields, Preds, Params, Lemmas}
use Rattle.hs_numbering.specs.declared.numbering.Reading.TheVariants.{Closed}
use Rattle.hs_numbering.specs.Names.{is_upper}
use Rattle.hs_numbering.specs.Numbering.{Builder, ◌>>=◌, ◌>>◌, pure, each, each_counted, fix}
use Rattle.hs_norm_formula.specs.declared.table.Entry.{Entry}
use Rattle.hs_norm_formula.specs.Table.{entry}
use Rattle.hs_norm_formula.specs.Formula.{blame_arity, limit, disjunct, formula}
use Rattle.hs_norm_formula.specs.Item.{item, conjunction}
use Rattle.hs_norm_formula.specs.Sum.{blame_kind}
use Rattle.hs_numbering.specs.declared.names.Names.{Names}
use Rattle.hs_declared.specs.declared.types.VarType.{VarType}
use Rattle.hs_declared.specs.declared.types.VarType.TheVariants.{Int, Node}
use Rattle.hs_declared.specs.Declaring.{blame_repeated}
use Rattle.hs_declared.specs.Types.{undeclared, type_of}
use Rattle.hs_norm_item.specs.Claim.{begin, fix_self, next_number, take_names}

-- ---- data types

-- the data type that a field points to
abbrev pub pointed : VarType → Option ℕ
pointed Int = None
pointed (Node k) = Some k

abbrev pub field : List Entry → ℕ → ParamTree → Builder (List ℕ × Option ℕ)
field entries count f = do
  limit 16 Fields f.at count
  kind ← type_of entries f.kind
  pure (f.name.text, pointed kind)

abbrev pub node : List Entry → ℕ → DataTree → Builder NodeDef
node entries count d = do
  limit 256 Nodes d.at count
  blame_repeated (map (λ f. f.name) d.fields)
  fields ← each_counted (field entries) d.fields
  pure (record { name = d.name.text; fields = fields })

-- ---- predicates

-- a parameter has the next number, and no binder may have its name
abbrev pub param : ℕ → Ident → Builder Var
param count x = limit 16 Params x.at count >> fix x

-- `self` is 1, and the parameters follow
abbrev pub params : ℕ → List Ident → Builder (List Var)
params at xs = do
  fix_self at
  blame_repeated xs
  each_counted param xs

abbrev pub invariant : Option (List ItemTree) → Builder Pure
invariant None = pure (pure_of.And [])
invariant (Some items) = conjunction (map item items)

abbrev pub pred : List Entry → ℕ → PredTree → Builder (PredDef × Names)
pred entries count p = do
  begin Closed
  limit 256 Preds p.at count
  vars ← params p.at p.params
  body ← formula entries p.body
  inv ← invariant p.inv
  next ← next_number
  names ← take_names
  pure (record { name = p.name.text; params = vars; body = body; inv = inv; next = next }, record { list = names })

-- ---- lemmas

-- the kinds of the names are those of the parameters
abbrev pub blame_param_kind : Bool × Ident → Builder (Unit {0})
blame_param_kind p = blame_kind p.1.at (not (beq p.0 (is_upper p.1.text)))

abbrev pub lemma_pred_of : LemmaTree → Entry → Of → Builder ℕ
lemma_pred_of l e (of.Node k) = undeclared l.pred >> pure 0
lemma_pred_of l e (of.Pred k) = do
  blame_arity l.pred.at (nat_eq (length e.kinds) (length l.params))
  each blame_param_kind (zip e.kinds l.params)
  pure k

abbrev pub lemma_pred_by : LemmaTree → Option Entry → Builder ℕ
lemma_pred_by l None = undeclared l.pred >> pure 0
lemma_pred_by l (Some e) = lemma_pred_of l e e.of

-- the predicate that a lemma speaks of
abbrev pub lemma_pred : List Entry → LemmaTree → Builder ℕ
lemma_pred entries l = lemma_pred_by l (entry l.pred.text entries)

abbrev pub lemma : List Entry → ℕ → LemmaTree → Builder (Lemma × Names)
lemma entries count l = do
  begin Closed
  limit 64 Lemmas l.at count
  pred ← lemma_pred entries l
  vars ← params l.at l.params
  right ← disjunct entries l.right
  next ← next_number
  names ← take_names
  pure (record { name = l.name.text; pred = pred; params = vars; right = right; next = next }, record { list = names })
