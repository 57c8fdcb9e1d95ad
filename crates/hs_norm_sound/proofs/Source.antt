-- The parts of a source in normal form, each built with nothing blamed.
use Rattle.std.proofs.Common.{◌≡◌, ℕ, List, [], map, Ok, is_some, refl, subst}
use Rattle.std.specs.List.{AllZip, filter_map}
use Rattle.hs_tree.specs.declared.ident.Ident.{Ident}
use Rattle.hs_tree.specs.declared.method.ParamTree.{ParamTree}
use Rattle.hs_tree.specs.declared.method.MethodSource.{MethodSource}
use Rattle.hs_tree.specs.declared.method.BlockTree.{BlockTree}
use Rattle.hs_tree.specs.declared.source.Source.{Source}
use Rattle.hs_tree.specs.declared.source.SourceItem.{SourceItem}
use Rattle.hs_heap.specs.declared.definitions.PredDef.{PredDef}
use Rattle.hs_heap.specs.declared.definitions.Lemma.{Lemma}
use Rattle.hs_numbering.specs.declared.names.Names.{Names}
use Rattle.hs_numbering.specs.declared.fault.Limit.TheVariants.{Params, Methods}
use Rattle.hs_numbering.specs.declared.numbering.Numbering.{Numbering}
use Rattle.hs_numbering.specs.declared.numbering.Reading.TheVariants.{Closed}
use Rattle.hs_numbering.specs.Least.{least}
use Rattle.hs_numbering.specs.Names.{is_upper}
use Rattle.hs_numbering.specs.Numbering.{Builder, each_counted, start}
use Rattle.hs_numbering.proofs.Before.{least_is_first}
use Rattle.hs_norm_formula.specs.declared.table.Entry.{Entry}
use Rattle.hs_norm_formula.specs.Formula.{limit}
use Rattle.hs_norm_formula.specs.Sum.{blame_kind}
use Rattle.hs_norm_formula.proofs.Answered.{outcome-Ok}
use Rattle.hs_declared.specs.declared.declarations.Declarations.{Declarations}
use Rattle.hs_norm.specs.declared.resolved.Resolved.{Resolved}
use Rattle.hs_declared.specs.Declaring.{defined_name, method_name, lemma_name, entries, blame_repeated, declarations, blame_second}
use Rattle.hs_norm.specs.Items.{data_of, pred_of, entail_of, method_of, lemma_of}
use Rattle.hs_declared.specs.Types.{optional_type}
use Rattle.hs_norm_item.specs.Definitions.{node, pred, lemma}
use Rattle.hs_norm_item.specs.Claims.{entailment, pair}
use Rattle.hs_norm_block.specs.Program.{block}
use Rattle.hs_norm.specs.Normal.{method_param, own_names, method, body, items_normal, normal_of}
use Rattle.hs_norm_sound.proofs.Passing.{KeepsFaults, counted_keeps, counted_all}
use Rattle.hs_norm_sound.proofs.Apart.{Pairs, Differ, repeated_keeps, repeated_apart}
use Rattle.hs_norm_sound.proofs.Blocks.{block_passes}
use Rattle.hs_norm_sound.proofs.Stays.{FaultsStay, limit_keeps, kind_keeps, type_keeps, optional_type_keeps, node_keeps, pred_keeps, lemma_keeps, entailment_keeps, pair_keeps}

-- ---- methods

block_keeps : (d : Declarations) (names : List Ident) (b : BlockTree) → KeepsFaults (block d names b)
block_keeps d names b = λ n e. ((block_passes d names (λ _. Unit {0}) (λ x y _ _ _. tt) (λ c count _ _. tt) (λ x count found _ _. tt) (λ at. tt) (λ x found _. tt) (λ t parts _ _. tt) b).0 n e).0

pub method_param_keeps : (entries : List Entry) (count : ℕ) (p : ParamTree) → KeepsFaults (method_param entries count p)
method_param_keeps entries count p = λ n e.
    let s1 = (limit 16 Params p.at count n).1 in
    let s2 = (blame_kind p.name.at (is_upper p.name.text) s1).1 in
    limit_keeps 16 Params p.at count n (kind_keeps p.name.at (is_upper p.name.text) s1 (type_keeps entries p.kind s2 e))

pub body_keeps : (d : Declarations) (m : MethodSource) → KeepsFaults (body d m)
body_keeps d m = λ n e. repeated_keeps (own_names m) 0 (own_names m) n (block_keeps d (own_names m) m.block (blame_repeated (own_names m) n).1 e)

pub second_keeps : (items : List SourceItem) → KeepsFaults (blame_second items)
second_keeps items = λ n e.
    let s1 = (blame_repeated (filter_map defined_name items) n).1 in
    let s2 = (blame_repeated (filter_map method_name items) s1).1 in
    repeated_keeps (filter_map defined_name items) 0 (filter_map defined_name items) n (repeated_keeps (filter_map method_name items) 0 (filter_map method_name items) s1
    (repeated_keeps (filter_map lemma_name items) 0 (filter_map lemma_name items) s2 e))

-- x was built as y, with nothing blamed
abbrev pub Built : {A B : Type 0} → (ℕ → A → Builder B) → A → B → Type 0
Built f x y = (k : ℕ) × (n : Numbering) × ((f k x n).1.faults ≡ []) × (y ≡ (f k x n).0)

pub all_built : {A B : Type 0} (f : ℕ → A → Builder B) → ((k : ℕ) (x : A) → KeepsFaults (f k x)) → (xs : List A) (n : Numbering) → (each_counted f xs n).1.faults ≡ [] → AllZip (Built f) xs (each_counted f xs n).0
all_built f keeps xs n e = counted_all f keeps (Built f) (λ k x n e. (k, n, e, refl)) xs n e

-- the parts of a source
pub record SourceBuilt (items : List SourceItem) (r : Resolved) : Type 0 where
  pub defined : Pairs Differ (filter_map defined_name items)
  pub methods_named : Pairs Differ (filter_map method_name items)
  pub lemmas_named : Pairs Differ (filter_map lemma_name items)
  pub nodes : AllZip (Built (node (entries items))) (filter_map data_of items) r.defs.nodes
  pub preds : List (PredDef × Names)
  pub preds_are : r.defs.preds ≡ map (λ p. p.0) preds
  pub preds_built : AllZip (Built (pred (entries items))) (filter_map pred_of items) preds
  pub entailments : AllZip (Built (entailment (entries items))) (filter_map entail_of items) r.entailments
  pub methods : AllZip (Built (method (declarations items))) (filter_map method_of items) r.methods
  pub lemmas : List (Lemma × Names)
  pub lemmas_are : r.defs.lemmas ≡ map (λ l. l.0) lemmas
  pub lemmas_built : AllZip (Built (lemma (entries items))) (filter_map lemma_of items) lemmas

module _ (stay : FaultsStay) where
  pub method_keeps : (d : Declarations) (count : ℕ) (m : MethodSource) → KeepsFaults (method d count m)
  method_keeps d count m = λ n e.
      let s1 = (limit 1024 Methods m.at count n).1 in
      let s2 = (each_counted (method_param d.table) m.params s1).1 in
      let s3 = (optional_type d.table m.result s2).1 in
      let s4 = (each_counted (pair d.table m.params (is_some m.result)) m.pairs s3).1 in
      limit_keeps 1024 Methods m.at count n (counted_keeps (method_param d.table) (method_param_keeps d.table) m.params s1 (optional_type_keeps d.table m.result s2
      (counted_keeps (pair d.table m.params (is_some m.result)) (pair_keeps stay d.table m.params (is_some m.result)) m.pairs s3 (body_keeps d m s4 e))))

  items_built : (items : List SourceItem) → (items_normal items (start Closed [])).1.faults ≡ [] → SourceBuilt items (items_normal items (start Closed [])).0
  items_built items e6 =
      let table = entries items in
      let s0 = start Closed [] in
      let a1 = (blame_repeated (filter_map defined_name items) s0).1 in
      let a2 = (blame_repeated (filter_map method_name items) a1).1 in
      let s1 = (blame_second items s0).1 in
      let nodes = each_counted (node table) (filter_map data_of items) s1 in
      let preds = each_counted (pred table) (filter_map pred_of items) nodes.1 in
      let entailments = each_counted (entailment table) (filter_map entail_of items) preds.1 in
      let methods = each_counted (method (declarations items)) (filter_map method_of items) entailments.1 in
      let lemmas = each_counted (lemma table) (filter_map lemma_of items) methods.1 in
      let e5 = counted_keeps (lemma table) (lemma_keeps stay table) (filter_map lemma_of items) methods.1 e6 in
      let e4 = counted_keeps (method (declarations items)) (method_keeps (declarations items)) (filter_map method_of items) entailments.1 e5 in
      let e3 = counted_keeps (entailment table) (entailment_keeps stay table) (filter_map entail_of items) preds.1 e4 in
      let e2 = counted_keeps (pred table) (pred_keeps stay table) (filter_map pred_of items) nodes.1 e3 in
      let e1 = counted_keeps (node table) (node_keeps table) (filter_map data_of items) s1 e2 in
      let b2 = repeated_keeps (filter_map lemma_name items) 0 (filter_map lemma_name items) a2 e1 in
      let b1 = repeated_keeps (filter_map method_name items) 0 (filter_map method_name items) a1 b2 in
      record {
        defined = repeated_apart (filter_map defined_name items) s0 b1;
        methods_named = repeated_apart (filter_map method_name items) a1 b2;
        lemmas_named = repeated_apart (filter_map lemma_name items) a2 e1;
        nodes = all_built (node table) (node_keeps table) (filter_map data_of items) s1 e2;
        preds = preds.0;
        preds_are = refl;
        preds_built = all_built (pred table) (pred_keeps stay table) (filter_map pred_of items) nodes.1 e3;
        entailments = all_built (entailment table) (entailment_keeps stay table) (filter_map entail_of items) preds.1 e4;
        methods = all_built (method (declarations items)) (method_keeps (declarations items)) (filter_map method_of items) entailments.1 e5;
        lemmas = lemmas.0;
        lemmas_are = refl;
        lemmas_built = all_built (lemma table) (lemma_keeps stay table) (filter_map lemma_of items) methods.1 e6;
      }

  pub source_built : (source : Source) (r : Resolved) → normal_of source ≡ Ok r → SourceBuilt source.items r
  source_built source r e =
      let done = items_normal source.items (start Closed []) in
      let is = outcome-Ok (least done.1.faults) done.0 r e in
      subst (SourceBuilt source.items) is.1 (items_built source.items ((least_is_first.none done.1.faults).0 is.0))
