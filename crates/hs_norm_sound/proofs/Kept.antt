-- The names of a source are kept, each once.
use Rattle.std.proofs.Common.{◌≡◌, ℕ, List, [], ◌∷◌, ◌++◌, map, refl, sym, ap, ◌∙◌, subst}
use Rattle.std.specs.List.{AllByRecursion, AllZip, filter_map}
use Rattle.hs_tree.specs.declared.ident.Ident.{Ident}
use Rattle.hs_tree.specs.declared.method.MethodSource.{MethodSource}
use Rattle.hs_tree.specs.declared.source.LemmaTree.{LemmaTree}
use Rattle.hs_tree.specs.declared.source.Source.{Source}
use Rattle.hs_tree.specs.declared.source.SourceItem.{SourceItem}
use Rattle.hs_tree.specs.declared.source.SourceItem.TheVariants as item_of
use Rattle.hs_heap.specs.declared.definitions.Lemma.{Lemma}
use Rattle.hs_numbering.specs.declared.names.Names.{Names}
use Rattle.hs_norm.specs.declared.resolved.Resolved.{Resolved}
use Rattle.hs_declared.specs.Declaring.{defined_name, method_name, lemma_name, entries}
use Rattle.hs_norm.specs.Items.{data_of, pred_of, method_of, lemma_of}
use Rattle.hs_norm_item.specs.Definitions.{lemma}
use Rattle.hs_norm_sound.specs.Entries.{NodeIsOf, PredIsOf, DefinesSource}
use Rattle.hs_norm_sound.specs.Methods.{AreApart, MethodIsDeclared}
use Rattle.hs_norm_sound.proofs.Passing.{zip_maps}
use Rattle.hs_norm_sound.proofs.Apart.{Pairs, Differ, all_pairs, apart_of}
use Rattle.hs_norm_sound.proofs.Stays.{FaultsStay}
use Rattle.hs_norm_sound.proofs.Source.{Built, SourceBuilt}
use Rattle.hs_norm_sound.proofs.Entries.{entries_fit}
use Rattle.hs_norm_sound.proofs.Defined.{nodes_are_of, preds_are_of, table_is}
use Rattle.hs_norm_sound.proofs.Methods.{methods_declared}

-- ---- one more among others

all_insert : {X : Type 0} (P : X → Type 0) (xs : List X) (y : X) (ys : List X) → P y → AllByRecursion P (xs ++ ys) → AllByRecursion P (xs ++ y ∷ ys)
all_insert P [] y ys p h = (p, h)
all_insert P (x ∷ xs) y ys p h = (h.0, all_insert P xs y ys p h.1)

pairs_insert : {X : Type 0} (R : X → X → Type 0) → ((x y : X) → R x y → R y x) → (xs : List X) (y : X) (ys : List X) → AllByRecursion (R y) (xs ++ ys) → Pairs R (xs ++ ys) → Pairs R (xs ++ y ∷ ys)
pairs_insert R turned [] y ys g h = (g, h)
pairs_insert R turned (x ∷ xs) y ys g h = (all_insert (R x) xs y ys (turned y x g.0) h.0, pairs_insert R turned xs y ys g.1 h.1)

abbrev node_names : List SourceItem → List (List ℕ)
node_names items = map (λ d. d.name.text) (filter_map data_of items)

abbrev pred_names : List SourceItem → List (List ℕ)
pred_names items = map (λ p. p.name.text) (filter_map pred_of items)

-- the names of data types and then of predicates are those that are defined
all_defined : (P : List ℕ → Type 0) (items : List SourceItem) → AllByRecursion (λ (x : Ident). P x.text) (filter_map defined_name items) → AllByRecursion P (node_names items ++ pred_names items)
all_defined P [] h = tt
all_defined P (item_of.Node d ∷ items) h = (h.0, all_defined P items h.1)
all_defined P (item_of.Pred p ∷ items) h = all_insert P (node_names items) p.name.text (pred_names items) h.0 (all_defined P items h.1)
all_defined P (item_of.Entail e ∷ items) h = all_defined P items h
all_defined P (item_of.Method m ∷ items) h = all_defined P items h
all_defined P (item_of.Lemma l ∷ items) h = all_defined P items h

abbrev Other : List ℕ → List ℕ → Type 0
Other x y = ¬ (x ≡ y)

defined_apart : (items : List SourceItem) → Pairs Differ (filter_map defined_name items) → Pairs Other (node_names items ++ pred_names items)
defined_apart [] h = tt
defined_apart (item_of.Node d ∷ items) h = (all_defined (Other d.name.text) items h.0, defined_apart items h.1)
defined_apart (item_of.Pred p ∷ items) h = pairs_insert Other (λ x y n e. n (sym e)) (node_names items) p.name.text (pred_names items) (all_defined (Other p.name.text) items h.0) (defined_apart items h.1)
defined_apart (item_of.Entail e ∷ items) h = defined_apart items h
defined_apart (item_of.Method m ∷ items) h = defined_apart items h
defined_apart (item_of.Lemma l ∷ items) h = defined_apart items h

-- ---- methods and lemmas

methods_named : (items : List SourceItem) → map (λ (x : Ident). x.text) (filter_map method_name items) ≡ map (λ (m : MethodSource). m.name.text) (filter_map method_of items)
methods_named [] = refl
methods_named (item_of.Node d ∷ items) = methods_named items
methods_named (item_of.Pred p ∷ items) = methods_named items
methods_named (item_of.Entail e ∷ items) = methods_named items
methods_named (item_of.Method m ∷ items) = ap (λ xs. m.name.text ∷ xs) (methods_named items)
methods_named (item_of.Lemma l ∷ items) = methods_named items

lemmas_named : (items : List SourceItem) → map (λ (x : Ident). x.text) (filter_map lemma_name items) ≡ map (λ (l : LemmaTree). l.name.text) (filter_map lemma_of items)
lemmas_named [] = refl
lemmas_named (item_of.Node d ∷ items) = lemmas_named items
lemmas_named (item_of.Pred p ∷ items) = lemmas_named items
lemmas_named (item_of.Entail e ∷ items) = lemmas_named items
lemmas_named (item_of.Method m ∷ items) = lemmas_named items
lemmas_named (item_of.Lemma l ∷ items) = ap (λ xs. l.name.text ∷ xs) (lemmas_named items)

module _ (stay : FaultsStay) (source : Source) (r : Resolved) (b : SourceBuilt source.items r) where
  abbrev items : List SourceItem
  items = source.items

  lemma_names : (ls : List LemmaTree) (qs : List (Lemma × Names)) → AllZip (Built (lemma (entries items))) ls qs → map (λ (l : Lemma). l.name) (map (λ q. q.0) qs) ≡ map (λ (l : LemmaTree). l.name.text) ls
  lemma_names [] [] h = refl
  lemma_names [] (q ∷ qs) h = absurd h
  lemma_names (l ∷ ls) [] h = absurd h
  lemma_names (l ∷ ls) (q ∷ qs) h = λ i. (h.0.3 i).0.name ∷ lemma_names ls qs h.1 i

  pub names_kept : DefinesSource source r
  names_kept =
      let nodes = nodes_are_of stay items r b in
      let preds = preds_are_of stay items r b in
      record {
        nodes = nodes;
        preds = preds;
        entries = entries_fit r.defs (entries items) (table_is stay items r b);
        definitions = subst AreApart (λ i. sym (zip_maps NodeIsOf (λ d. d.name.text) (λ d. d.name) (λ d n h. h.name) (filter_map data_of items) r.defs.nodes nodes) i
            ++ sym (zip_maps PredIsOf (λ p. p.name.text) (λ p. p.name) (λ p q h. h.name) (filter_map pred_of items) r.defs.preds preds) i)
            (all_pairs Other (node_names items ++ pred_names items) (defined_apart items b.defined));
        lemmas = subst AreApart (lemmas_named items ∙ sym (lemma_names (filter_map lemma_of items) b.lemmas b.lemmas_built) ∙ ap (map (λ (l : Lemma). l.name)) (sym b.lemmas_are)) (apart_of (filter_map lemma_name items) b.lemmas_named);
        methods = subst AreApart (methods_named items ∙ sym (zip_maps (MethodIsDeclared r.defs (filter_map method_of items)) (λ m. m.name.text) (λ m. m.name) (λ m t h. h.name) (filter_map method_of items) r.methods (methods_declared stay items r b)))
            (apart_of (filter_map method_name items) b.methods_named);
      }
