-- What a source declares, and its second declarations.
use Rattle.std.specs.Prelude.{ℕ, suc, Bool, true, false, not, nat_eq, List, [], ◌∷◌, length, map, Option, Some, None}
use Rattle.std.specs.List.{filter_map}
use Rattle.hs_tree.specs.declared.ident.Ident.{Ident}
use Rattle.hs_tree.specs.declared.source.DataTree.{DataTree}
use Rattle.hs_tree.specs.declared.source.PredTree.{PredTree}
use Rattle.hs_tree.specs.declared.source.SourceItem.{SourceItem}
use Rattle.hs_tree.specs.declared.source.SourceItem.TheVariants.{Node, Pred, Method, Lemma}
use Rattle.hs_heap.specs.declared.formula.Of.TheVariants as of
use Rattle.hs_numbering.specs.Numbering.{Builder, ◌>>=◌, ◌>>◌, pure, blame_twice}
use Rattle.hs_numbering.specs.Names.{is_upper}
use Rattle.hs_norm_formula.specs.declared.table.Entry.{Entry}
use Rattle.hs_declared.specs.declared.declarations.Declarations.{Declarations}
use Rattle.hs_declared.specs.Names.{place}

-- ---- names

-- the name that an item declares as a data type or predicate
abbrev pub defined_name : SourceItem → Option Ident
defined_name (Node d) = Some d.name
defined_name (Pred p) = Some p.name
defined_name _ = None

abbrev pub method_name : SourceItem → Option Ident
method_name (Method m) = Some m.name
method_name _ = None

abbrev pub lemma_name : SourceItem → Option Ident
lemma_name (Lemma l) = Some l.name
lemma_name _ = None

-- ---- tables

abbrev pub node_entry : ℕ → DataTree → Entry
node_entry k d = record { name = d.name.text; of = of.Node k; kinds = map (λ f. false) d.fields }

abbrev pub pred_entry : ℕ → PredTree → Entry
pred_entry k p = record { name = p.name.text; of = of.Pred k; kinds = map (λ x. is_upper x.text) p.params }

-- the data types and predicates in source order, numbered by kind, after n data types and k predicates
abbrev pub entries_after : ℕ → ℕ → List SourceItem → List Entry
entries_after n k [] = []
entries_after n k (Node d ∷ items) = node_entry (suc n) d ∷ entries_after (suc n) k items
entries_after n k (Pred p ∷ items) = pred_entry (suc k) p ∷ entries_after n (suc k) items
entries_after n k (_ ∷ items) = entries_after n k items

abbrev pub entries : List SourceItem → List Entry
entries items = entries_after 0 0 items

abbrev pub param_count : SourceItem → Option ℕ
param_count (Method m) = Some (length m.params)
param_count _ = None

-- what a source declares
abbrev pub declarations : List SourceItem → Declarations
declarations items = record {
  table = entries items;
  methods = filter_map method_name items;
  counts = filter_map param_count items;
}

-- ---- second declarations

abbrev pub is_other : ℕ → Option ℕ → Bool
is_other i None = true
is_other i (Some k) = not (nat_eq k i)

-- from place i on, each name that is not at the first place of its name
abbrev pub blame_repeated_from : List Ident → ℕ → List Ident → Builder (Unit {0})
blame_repeated_from all i [] = pure tt
blame_repeated_from all i (x ∷ xs) = blame_twice x (is_other i (place x.text all)) >> blame_repeated_from all (suc i) xs

abbrev pub blame_repeated : List Ident → Builder (Unit {0})
blame_repeated xs = blame_repeated_from xs 0 xs

-- names are declared once in their space: data types and predicates, methods, lemmas
abbrev pub blame_second : List SourceItem → Builder (Unit {0})
blame_second items = do
  blame_repeated (filter_map defined_name items)
  blame_repeated (filter_map method_name items)
  blame_repeated (filter_map lemma_name items)
