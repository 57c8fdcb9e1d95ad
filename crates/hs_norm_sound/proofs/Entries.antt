-- The table of a source has what its definitions are.
use Rattle.std.proofs.Common.{◌≡◌, ℕ, suc, ◌+◌, false, List, [], ◌∷◌, map, Option, Some, None, slice_get, option_map, refl, sym, ap, ◌∙◌, subst, arith}
use Rattle.std.specs.List.{AllByRecursion, AllZip, filter_map}
use Rattle.std.specs.Str.{bytes_eq}
use Rattle.std.proofs.lemmas.List.Elements.{All-from_recursion}
use Rattle.std.proofs.lemmas.Slice.Eq.{bytes_eq-Decides}
use Rattle.hs_tree.specs.declared.source.SourceItem.{SourceItem}
use Rattle.hs_tree.specs.declared.source.SourceItem.TheVariants.{Node, Pred, Entail, Method, Lemma}
use Rattle.hs_heap.specs.declared.formula.Of.{Of}
use Rattle.hs_heap.specs.declared.formula.Of.TheVariants as of
use Rattle.hs_heap.specs.declared.definitions.NodeDef.{NodeDef}
use Rattle.hs_heap.specs.declared.definitions.PredDef.{PredDef}
use Rattle.hs_heap.specs.declared.definitions.Defs.{Defs}
use Rattle.hs_heap.specs.Meaning.{pred_at}
use Rattle.hs_heap.specs.Sound.{node_at, kinds, argument_kinds}
use Rattle.hs_norm_formula.specs.declared.table.Entry.{Entry}
use Rattle.hs_norm_formula.specs.Table.{entry, entry_at, place}
use Rattle.hs_declared.specs.Declaring.{entries_after, entries}
use Rattle.hs_norm.specs.Items.{data_of, pred_of}
use Rattle.hs_declared.specs.Types.{as_node, node_by}
use Rattle.hs_formula_fits.specs.Fits.{EntriesFit}
use Rattle.hs_norm_sound.specs.Entries.{NodeIsOf, PredIsOf}
use Rattle.hs_norm_sound.proofs.Found.{found_at, get_all, some_eq}

-- the data type or predicate of an entry is there, with its name and kinds
abbrev pub IsAt : Defs → Of → Entry → Type 0
IsAt defs (of.Node k) e = (d : NodeDef) × (node_at defs k ≡ Some d) × (d.name ≡ e.name) × (map (λ f. false) d.fields ≡ e.kinds)
IsAt defs (of.Pred k) e = (p : PredDef) × (pred_at defs k ≡ Some p) × (p.name ≡ e.name) × (kinds p.params ≡ e.kinds)

abbrev pub EntryIs : Defs → Entry → Type 0
EntryIs defs e = IsAt defs e.of e

-- from a place on, the list is the other one
abbrev From : {X : Type 0} → List X → ℕ → List X → Type 0
From xs n ys = (i : ℕ) → slice_get xs (n + i) ≡ slice_get ys i

first : {X : Type 0} (xs : List X) (n : ℕ) (y : X) (ys : List X) → From xs n (y ∷ ys) → slice_get xs n ≡ Some y
first xs n y ys h = ap (slice_get xs) (at n) ∙ h 0
  where
    at : (n : ℕ) → n ≡ n + 0
    at n = omega arith

rest : {X : Type 0} (xs : List X) (n : ℕ) (y : X) (ys : List X) → From xs n (y ∷ ys) → From xs (suc n) ys
rest xs n y ys h i = ap (slice_get xs) (at n i) ∙ h (suc i)
  where
    at : (n i : ℕ) → suc n + i ≡ n + suc i
    at n i = omega arith

module _ (defs : Defs) where
  after : (items : List SourceItem) (n k : ℕ) (nodes : List NodeDef) (preds : List PredDef) → From defs.nodes n nodes → From defs.preds k preds →
      AllZip NodeIsOf (filter_map data_of items) nodes → AllZip PredIsOf (filter_map pred_of items) preds → AllByRecursion (EntryIs defs) (entries_after n k items)
  after [] n k nodes preds f g h p = tt
  after (Node d ∷ items) n k [] preds f g h p = absurd h
  after (Node d ∷ items) n k (nd ∷ nodes) preds f g h p =
      ((nd, first defs.nodes n nd nodes f, h.0.name, h.0.fields), after items (suc n) k nodes preds (rest defs.nodes n nd nodes f) g h.1 p)
  after (Pred q ∷ items) n k nodes [] f g h p = absurd p
  after (Pred q ∷ items) n k nodes (pd ∷ preds) f g h p =
      ((pd, first defs.preds k pd preds g, p.0.name, p.0.kinds), after items n (suc k) nodes preds f (rest defs.preds k pd preds g) h p.1)
  after (Entail e ∷ items) n k nodes preds f g h p = after items n k nodes preds f g h p
  after (Method m ∷ items) n k nodes preds f g h p = after items n k nodes preds f g h p
  after (Lemma l ∷ items) n k nodes preds f g h p = after items n k nodes preds f g h p

  pub entries_are : (items : List SourceItem) → AllZip NodeIsOf (filter_map data_of items) defs.nodes → AllZip PredIsOf (filter_map pred_of items) defs.preds → AllByRecursion (EntryIs defs) (entries items)
  entries_are items h p = after items 0 0 defs.nodes defs.preds (λ i. ap (slice_get defs.nodes) (none i)) (λ i. ap (slice_get defs.preds) (none i)) h p
    where
      none : (i : ℕ) → 0 + i ≡ i
      none i = omega arith

  pub kinds_at : (e : Entry) → EntryIs defs e → argument_kinds defs e.of ≡ Some e.kinds
  kinds_at e h = go e.of h
    where
      go : (o : Of) → IsAt defs o e → argument_kinds defs o ≡ Some e.kinds
      go (of.Node k) h = ap (option_map (λ (d : NodeDef). map (λ f. false) d.fields)) h.1 ∙ ap Some h.3
      go (of.Pred k) h = ap (option_map (λ (p : PredDef). kinds p.params)) h.1 ∙ ap Some h.3

  fit_each : (es : List Entry) → AllByRecursion (EntryIs defs) es → AllByRecursion (λ e. argument_kinds defs e.of ≡ Some e.kinds) es
  fit_each [] h = tt
  fit_each (e ∷ es) h = (kinds_at e h.0, fit_each es h.1)

  pub entries_fit : (es : List Entry) → AllByRecursion (EntryIs defs) es → EntriesFit defs es
  entries_fit es h = All-from_recursion (λ e. argument_kinds defs e.of ≡ Some e.kinds) es (fit_each es h)

-- ---- entries by their names

pub entry_is : (P : Entry → Type 0) (name : List ℕ) (es : List Entry) (e : Entry) → entry name es ≡ Some e → AllByRecursion P es → P e × (e.name ≡ name)
entry_is P name es e h all = of (place name es) refl h
  where
    of : (o : Option ℕ) → place name es ≡ o → entry_at es o ≡ Some e → P e × (e.name ≡ name)
    of None p k = cc
    of (Some j) p k =
        let f = found_at (λ x. bytes_eq name x.name) es 0 j p in
        let at : j ≡ f.place = f.is ∙ none f.place in
        let is : f.item ≡ e = some_eq f.item e (sym f.got ∙ ap (slice_get es) (sym at) ∙ k) in
        let same : name ≡ f.item.name = (bytes_eq-Decides name f.item.name).0 f.passes in
        (get_all P es j e k all, sym (same ∙ ap (λ x. x.name) is))
      where
        none : (i : ℕ) → 0 + i ≡ i
        none i = omega arith

-- a data type by its name
pub record NodeFound (defs : Defs) (text : List ℕ) (found : ℕ × Entry) : Type 0 where
  pub node : NodeDef
  pub at : node_at defs found.0 ≡ Some node
  pub name : node.name ≡ text
  pub fields : map (λ f. false) node.fields ≡ found.1.kinds

pub node_found : (defs : Defs) (name : List ℕ) (es : List Entry) (found : ℕ × Entry) → as_node (entry name es) ≡ Some found → AllByRecursion (EntryIs defs) es → NodeFound defs name found
node_found defs name es found h all = go (entry name es) refl h
  where
    by : (e : Entry) (o : Of) → IsAt defs o e → e.name ≡ name → node_by e o ≡ Some found → NodeFound defs name found
    by e (of.Node k) at is k-is = subst (NodeFound defs name) (some_eq (k, e) found k-is) (record { node = at.0; at = at.1; name = at.2 ∙ is; fields = at.3 })
    by e (of.Pred k) at is k-is = cc

    go : (o : Option Entry) → entry name es ≡ o → as_node o ≡ Some found → NodeFound defs name found
    go None e k = cc
    go (Some x) e k = let is = entry_is (EntryIs defs) name es x e all in by x x.of is.0 is.1 k
