-- The normal form of a source, or its first fault.
use Rattle.std.specs.Prelude.{ℕ, List, [], ◌∷◌, ◌++◌, length, map, Option, Some, None, is_some, Result}
use Rattle.std.specs.List.{filter_map}
use Rattle.hs_tree.specs.declared.ident.Ident.{Ident}
use Rattle.hs_tree.specs.declared.method.ParamTree.{ParamTree}
use Rattle.hs_tree.specs.declared.method.MethodSource.{MethodSource}
use Rattle.hs_tree.specs.declared.source.Source.{Source}
use Rattle.hs_tree.specs.declared.source.SourceItem.{SourceItem}
use Rattle.hs_numbering.specs.declared.fault.Limit.TheVariants.{Params, Methods}
use Rattle.hs_numbering.specs.Names.{is_upper}
use Rattle.hs_numbering.specs.declared.numbering.Numbering.{Numbering}
use Rattle.hs_numbering.specs.declared.numbering.Reading.TheVariants.{Closed}
use Rattle.hs_numbering.specs.Numbering.{Builder, ◌>>=◌, ◌>>◌, pure, each_counted, start}
use Rattle.hs_norm_formula.specs.Formula.{limit}
use Rattle.hs_norm_formula.specs.Sum.{blame_kind}
use Rattle.hs_norm_formula.specs.declared.table.Entry.{Entry}
use Rattle.hs_norm_formula.specs.declared.by_number.NormError.{NormError}
use Rattle.hs_norm_formula.specs.Numbered.{answer}
use Rattle.hs_norm.specs.declared.resolved.Param.{Param}
use Rattle.hs_norm.specs.declared.resolved.MethodTree.{MethodTree}
use Rattle.hs_norm.specs.declared.resolved.Resolved.{Resolved}
use Rattle.hs_declared.specs.Declaring.{declarations, blame_repeated, blame_second}
use Rattle.hs_norm.specs.Items.{data_of, pred_of, entail_of, method_of, lemma_of}
use Rattle.hs_declared.specs.Types.{type_of, optional_type}
use Rattle.hs_norm_item.specs.Definitions.{node, pred, lemma}
use Rattle.hs_norm_item.specs.Claims.{entailment, pair}
use Rattle.hs_norm_block.specs.Program.{block, locals}
use Rattle.hs_declared.specs.declared.declarations.Declarations.{Declarations}

abbrev pub method_param : List Entry → ℕ → ParamTree → Builder Param
method_param entries count p = do
  limit 16 Params p.at count
  blame_kind p.name.at (is_upper p.name.text)
  kind ← type_of entries p.kind
  pure (record { name = p.name.text; kind = kind })

-- the parameters, and the locals of the block
abbrev pub own_names : MethodSource → List Ident
own_names m = map (λ p. p.name) m.params ++ locals m.block

-- its names are declared once, and it uses what is declared
abbrev pub body : Declarations → MethodSource → Builder (Unit {0})
body d m = do
  blame_repeated (own_names m)
  block d (own_names m) m.block

abbrev pub method : Declarations → ℕ → MethodSource → Builder MethodTree
method d count m = do
  limit 1024 Methods m.at count
  params ← each_counted (method_param d.table) m.params
  result ← optional_type d.table m.result
  pairs ← each_counted (pair d.table m.params (is_some m.result)) m.pairs
  body d m
  pure (record { name = m.name.text; params = params; result = result; pairs = pairs; block = m.block })

-- one more is built, if there is an item
abbrev pub add_some : {A B : Type 0} → (ℕ → A → Builder B) → Option A → List B × Numbering → List B × Numbering
add_some f None done = done
add_some f (Some x) done = (done.0 ++ (f (length done.0) x done.1).0 ∷ [], (f (length done.0) x done.1).1)

-- over these declarations
abbrev pub parts_normal : Declarations → List SourceItem → Builder Resolved
parts_normal d items = do
  nodes ← each_counted (node d.table) (filter_map data_of items)
  preds ← each_counted (pred d.table) (filter_map pred_of items)
  entailments ← each_counted (entailment d.table) (filter_map entail_of items)
  methods ← each_counted (method d) (filter_map method_of items)
  lemmas ← each_counted (lemma d.table) (filter_map lemma_of items)
  pure (record {
    defs = record { nodes = nodes; preds = map (λ p. p.0) preds; lemmas = map (λ l. l.0) lemmas };
    pred_names = map (λ p. p.1) preds;
    entailments = entailments;
    methods = methods;
    lemma_names = map (λ l. l.1) lemmas;
  })

abbrev pub items_normal : List SourceItem → Builder Resolved
items_normal items = do
  blame_second items
  parts_normal (declarations items) items

-- what is built, or the first fault
abbrev pub normal_of : Source → Result Resolved NormError
normal_of source = answer (items_normal source.items (start Closed []))
